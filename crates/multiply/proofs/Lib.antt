-- These proofs assume nothing.
pub mod Bounds
pub mod Rows
pub mod Kept
pub mod Examples
