-- These proofs assume nothing.
pub mod Fill
pub mod Same
pub mod Lowest
