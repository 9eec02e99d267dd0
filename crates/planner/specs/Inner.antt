-- Predicates of inner functions.
pub mod Parts
