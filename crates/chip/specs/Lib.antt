-- These definitions assume nothing. A mark such as (M27) names the entry of docs/MANUAL.md that says how the page is read.
pub mod Glossary
pub mod Operations
pub mod Lists
pub mod Single
