-- Laws of a step of the walk, and of its answers.
pub mod Agreeing
pub mod Matching
pub mod Stepping
pub mod Walking
pub mod Stops
