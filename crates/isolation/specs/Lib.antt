-- Non-interference: two stores that differ only in connections that a query does not name, and the claim.
pub mod Others
pub mod CannotSee
pub mod Inner
