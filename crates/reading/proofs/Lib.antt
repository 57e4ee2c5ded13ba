-- These proofs assume nothing.
pub mod FirstLine
pub mod Table
pub mod Words
pub mod Sheets
pub mod Ends
pub mod Answers
