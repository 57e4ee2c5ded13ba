-- These proofs assume nothing.
pub mod Telling
