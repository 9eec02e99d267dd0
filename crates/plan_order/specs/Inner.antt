-- Predicates of inner functions. What the ordering asks of a query and of entries, and what it counts.
pub mod Counts
