-- These proofs assume nothing.
pub mod Bytes
pub mod Passing
pub mod Names
pub mod Mnemonics
pub mod Scan
pub mod Lines
pub mod Pages
