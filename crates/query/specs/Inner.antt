-- Predicates of inner functions. The query in the code's structs, and sets as masks.
pub mod Struct
pub mod Mask
