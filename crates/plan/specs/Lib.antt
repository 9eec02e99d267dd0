-- The plan: operators in postfix order, their file, the faults for which Check plan refuses one, and the
-- code's structs.
pub mod Plan
pub mod Check
pub mod File
pub mod Inner
