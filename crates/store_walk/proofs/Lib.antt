-- Laws of the walk's start and end, and of the order of its vertices.
pub mod Finished
pub mod Lowest
pub mod Sums
