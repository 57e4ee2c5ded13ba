-- These proofs assume nothing.
pub mod Mnemonics
pub mod Columns
