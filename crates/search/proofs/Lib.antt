-- Laws of searching an ascending list.
pub mod Below
pub mod Laws
pub mod Places
pub mod Loops
