-- Laws of the store check where lists are short.
pub mod Begun
pub mod Blocks
pub mod Few
pub mod Fits
pub mod Loops
pub mod Reverses
pub mod Offsets
