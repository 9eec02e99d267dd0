-- The definitions that the contracts of Read query cite are `query`'s; here are those of inner functions.
pub mod Inner
