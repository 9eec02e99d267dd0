-- Predicates of inner functions. What the passes find and leave.
pub mod Transpose
