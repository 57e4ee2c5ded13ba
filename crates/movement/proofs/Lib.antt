-- These proofs assume nothing.
pub mod Kept
