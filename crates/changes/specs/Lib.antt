-- Changes to a graph: the edited graph, and what is claimed of the store that is written.
pub mod Edit
pub mod Claims
pub mod Inner
