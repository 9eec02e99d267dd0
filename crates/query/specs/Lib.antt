-- The query: a pattern, its file, the faults for which Read query refuses one, and what it answers.
pub mod Query
pub mod Connected
pub mod File
pub mod Answer
pub mod Inner
