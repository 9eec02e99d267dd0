-- Predicates of inner functions.
pub mod Held
