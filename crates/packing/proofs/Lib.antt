-- These proofs assume nothing.
pub mod Numbers
pub mod Ends
pub mod Registers
pub mod RoundTrip
