-- Predicates of inner functions. What the functions that read a change file ask and answer.
pub mod Reading
