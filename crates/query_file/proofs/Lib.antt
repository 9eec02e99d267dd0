-- Laws of the query file: the query that it holds, and its faults.
pub mod Structs
pub mod FileLaws
pub mod Limits
