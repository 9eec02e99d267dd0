-- Predicates of inner functions.
pub mod Lines
