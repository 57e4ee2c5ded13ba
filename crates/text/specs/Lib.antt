-- These definitions assume nothing.
pub mod Text
pub mod Ascii
pub mod Fill
