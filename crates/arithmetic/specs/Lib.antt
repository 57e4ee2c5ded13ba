-- These definitions assume nothing. A mark such as (M27) names the entry of docs/MANUAL.md that says how the page is read.
pub mod Nibbles
pub mod Arithmetic
pub mod Decimal
