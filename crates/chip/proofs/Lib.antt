-- These proofs assume nothing.
pub mod Pages
pub mod Range
pub mod Kept
pub mod Single
pub mod Facts
pub mod Files
pub mod Words
pub mod Examples
pub mod PutBack
