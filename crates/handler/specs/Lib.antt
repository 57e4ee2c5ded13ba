-- These definitions assume nothing.
pub mod Form
pub mod Overlap
pub mod Schedule
