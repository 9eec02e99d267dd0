-- Bounds of a plan without a run: what each operator is bounded by, what is answered, and what is promised of
-- a run.
pub mod Bounds
pub mod Capped
pub mod Answer
pub mod Promise
pub mod Inner
