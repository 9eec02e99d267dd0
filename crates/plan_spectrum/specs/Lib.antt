-- All orderings of a small pattern: which they are, what is answered and left, and what is claimed of them.
pub mod Orders
pub mod Spectrum
pub mod Claims
pub mod Inner
