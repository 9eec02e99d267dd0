-- Predicates of inner functions. The lists of a side tested all at once.
pub mod Order
