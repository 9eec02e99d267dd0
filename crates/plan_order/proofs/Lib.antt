-- Laws of the ordering: what is chosen, and the edges that are counted.
pub mod Choosing
pub mod Tallies
pub mod Degrees
