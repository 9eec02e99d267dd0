-- Predicates of inner functions. What is known of a store while its entries are walked label by label.
pub mod Walk
pub mod Stops
