-- Predicates of inner functions. What the field writer leaves.
pub mod Put
