-- These definitions assume nothing.
pub mod Telling
