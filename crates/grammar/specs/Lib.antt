-- These definitions assume nothing.
pub mod Grammar
pub mod Scan
