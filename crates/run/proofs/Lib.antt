-- These proofs assume nothing.
pub mod Laws
pub mod Parts
pub mod Stepping
