-- These proofs assume nothing.
pub mod One
pub mod Writing
