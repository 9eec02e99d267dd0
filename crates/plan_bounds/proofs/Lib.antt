-- Laws of the bounds: numbers that stop at a top value, longest portions, the pile, and what a run is promised.
pub mod Capping
pub mod Counting
pub mod Reached
pub mod Steady
pub mod Promised
pub mod Seeing
pub mod Piling
pub mod Turning
pub mod Answers
