-- Laws of a join's pairs, of the buckets of its keys and of the chains of its table.
pub mod Chains
pub mod Crossing
pub mod Doubled
pub mod Inserted
pub mod Keys
pub mod Tables
