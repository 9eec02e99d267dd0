-- The backward side of a graph from its forward one.
pub mod Inner
