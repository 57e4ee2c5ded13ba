-- These definitions assume nothing.
pub mod Lines
