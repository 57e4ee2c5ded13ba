-- These proofs assume nothing.
pub mod Pieces
pub mod Back
pub mod Lines
pub mod Sheets
pub mod Texts
pub mod RoundTrip
