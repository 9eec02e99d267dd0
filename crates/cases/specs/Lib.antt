-- The worked cases of document 01, and the bounds of paper 11.
pub mod Cases
pub mod Bounds
