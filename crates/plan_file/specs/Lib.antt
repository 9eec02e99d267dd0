-- The definitions that the contract of Check plan cites are `plan`'s; here are those of inner functions.
pub mod Inner
