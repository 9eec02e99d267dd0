-- Find: Draw plan, and then Run on what it drew.
pub mod Find
pub mod Inner
