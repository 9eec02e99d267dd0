-- The words that the definitions of the other crates are written in.
pub mod Lists
pub mod Refusal
