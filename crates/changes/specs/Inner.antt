-- Predicates of inner functions. What is read of a change file, and how lists are merged with it.
pub mod Edits
pub mod Fill
