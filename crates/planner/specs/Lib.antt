-- The drawn plan: the ordering, its bytes, the refusals, what is answered, and what is claimed of it.
pub mod Draw
pub mod Complete
pub mod Inner
