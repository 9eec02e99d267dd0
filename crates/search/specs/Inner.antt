-- Predicates of inner functions. Where a word stands in an ascending list of words.
pub mod Search
