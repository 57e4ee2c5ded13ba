-- These proofs assume nothing.
pub mod Input
pub mod Lines
