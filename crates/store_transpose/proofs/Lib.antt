-- Laws of the backward side made from the forward one.
pub mod Targets
pub mod Owners
pub mod Pairs
pub mod Turning
pub mod Turns
pub mod Ends
pub mod Whole
