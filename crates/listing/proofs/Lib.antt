-- These proofs assume nothing.
pub mod Lines
pub mod Answers
