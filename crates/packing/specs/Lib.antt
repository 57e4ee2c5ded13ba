-- These definitions assume nothing.
pub mod Packing
pub mod Registers
