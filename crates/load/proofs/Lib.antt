-- Laws of Load: the passes that fill the store.
pub mod Sides
pub mod Forward
pub mod ByLabel
pub mod ByTarget
pub mod Written
pub mod Answered
