-- Predicates of inner functions. How a graph file is written, and where the sides of a store begin.
pub mod Encode
pub mod Side
