-- These proofs assume nothing.
pub mod Cases
pub mod Lists
