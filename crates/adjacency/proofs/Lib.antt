-- Laws of the store's lists and portions.
pub mod Accepted
pub mod Between
pub mod Listed
pub mod Members
pub mod Portions
