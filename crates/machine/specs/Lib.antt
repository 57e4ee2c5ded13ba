-- These definitions assume nothing. A mark such as (M27) names the entry of docs/MANUAL.md that says how the page is read.
pub mod Status
pub mod Inputs
pub mod Core
pub mod Pins
