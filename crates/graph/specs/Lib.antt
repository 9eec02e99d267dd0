-- The graph: its file, its store, what Load answers and which stores are refused.
pub mod Graph
pub mod File
pub mod Store
pub mod Inner
