-- The change file: its fields, and which files are refused.
pub mod File
pub mod Inner
