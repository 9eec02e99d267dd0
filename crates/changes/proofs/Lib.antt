-- Laws of the changes: the edited graph, and the store that is written of it.
pub mod Flips
pub mod OtherKeys
pub mod Edited
pub mod EditedGraph
pub mod Present
pub mod Directions
pub mod Sides
pub mod Filled
pub mod Answers
pub mod Loaded
pub mod Reversed
pub mod Encoded
pub mod Reverse
