-- No public contract cites a definition of this crate: all are of inner functions.
pub mod Inner
