-- Load: what its functions ask of a file, the groups by which it sorts, what it writes and what it answers.
pub mod Answer
pub mod Inner
