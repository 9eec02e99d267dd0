-- Laws of rows in the code.
pub mod Lists
pub mod Widths
pub mod Unpacking
pub mod Writing
pub mod Laid
