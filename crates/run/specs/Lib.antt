-- These definitions assume nothing.
pub mod Run
pub mod Step
