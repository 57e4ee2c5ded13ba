-- These definitions assume nothing.
pub mod Serve
pub mod Interrupt
pub mod Demand3
