-- These proofs assume nothing.
pub mod Chains
pub mod Bounds
pub mod Kept
pub mod Examples
