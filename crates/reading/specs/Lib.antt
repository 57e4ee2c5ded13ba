-- These definitions assume nothing.
pub mod Reader
