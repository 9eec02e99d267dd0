-- Laws of copying word by word, and of words that are zeros.
pub mod Copying
pub mod Zeros
