-- What Find answers and leaves, by what decides.
pub mod Answers
