-- Predicates of inner functions. How the lists of a side are merged with changes.
pub mod Merge
pub mod Toggle
