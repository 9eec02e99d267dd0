-- No public contract cites a definition of this crate: the operations answer the number itself.
pub mod Inner
