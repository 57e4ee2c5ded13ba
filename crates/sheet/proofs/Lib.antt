-- These proofs assume nothing.
pub mod Positions
pub mod Table
pub mod Answers
pub mod Headings
