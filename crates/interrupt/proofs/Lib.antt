-- These proofs assume nothing.
pub mod Owners
pub mod Frame
pub mod NoTrace
pub mod Lines
pub mod Verdicts
pub mod Serving
pub mod Formed
pub mod Told
pub mod Demand3
