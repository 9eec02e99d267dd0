-- Predicates of inner functions. The plan in the code's structs, and a pile in an array.
pub mod Struct
pub mod Pile
