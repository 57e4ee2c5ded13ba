-- These proofs assume nothing.
pub mod FormLaws
pub mod OverlapLaws
pub mod ScheduleLaws
pub mod Answers
