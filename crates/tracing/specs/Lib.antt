-- These definitions assume nothing.
pub mod Input
pub mod Lines
pub mod Fill
