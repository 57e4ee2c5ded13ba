-- These definitions assume nothing.
pub mod Mnemonics
