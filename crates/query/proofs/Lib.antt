-- Laws of the query: its struct, sets of its vertices as masks, and connectedness.
pub mod Images
pub mod Structs
pub mod Masks
pub mod Touch
pub mod Pairs
pub mod Steps
pub mod Connected
