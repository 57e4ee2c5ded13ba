-- These definitions assume nothing.
pub mod Signed
pub mod Sequences
pub mod Results
pub mod Decimal
pub mod AppendixA
pub mod OnSheets
pub mod Compare
