-- These definitions assume nothing.
pub mod Numbers
pub mod Version
