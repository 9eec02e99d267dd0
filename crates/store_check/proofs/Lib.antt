-- Laws of the store check.
pub mod Dropping
pub mod KeyLists
pub mod Counting
pub mod Order
pub mod Spelt
pub mod Tested
pub mod Decided
