-- Predicates of inner functions: the parts of a plan file's refusal, and the pile of sets.
pub mod Parts
pub mod Pile
