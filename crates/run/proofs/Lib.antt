-- The whole run lists every match once.
pub mod Answers
