-- Laws of rows and of matches.
pub mod Rows
pub mod Words
pub mod Filters
pub mod Permits
pub mod Cuts
pub mod Tuples
