-- Predicates of inner functions: the parts of a query file and of Read query's refusal.
pub mod Parts
