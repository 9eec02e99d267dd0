pub mod Starred
pub mod Worked
