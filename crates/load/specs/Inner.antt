-- Predicates of inner functions. What the functions of Load ask of a file, and what they write.
pub mod Sides
