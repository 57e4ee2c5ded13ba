-- These proofs assume nothing.
pub mod Laws
pub mod BitByBit
pub mod Adder
pub mod Bounds
pub mod Rest
