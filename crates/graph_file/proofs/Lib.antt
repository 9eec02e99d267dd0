-- Laws of the graph file: what its fields hold, and its faults.
pub mod Entries
pub mod Refused
