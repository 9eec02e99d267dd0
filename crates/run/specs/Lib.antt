-- No public contract cites a definition of this crate: what Run answers stands in `run_spec`.
pub mod Inner
