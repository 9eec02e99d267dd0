-- Predicates of inner functions. What the functions that read a graph file ask and answer.
pub mod Reading
