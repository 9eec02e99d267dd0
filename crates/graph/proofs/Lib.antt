-- Laws of the graph: its file, its store, and which stores accepted files load to.
pub mod WellFormed
pub mod Keys
pub mod Parts
pub mod VertexLists
pub mod StoreGraph
pub mod FileGraph
pub mod EncodeGraph
pub mod Loads
