-- Predicates of inner functions. A vertex's list as it lies in a store, and its portion for a label.
pub mod Portion
pub mod Side
