-- These definitions assume nothing.
pub mod Lines
pub mod Lister
