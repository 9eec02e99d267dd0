-- Predicates of inner functions. The parts of the store check, and how many lists begin up to an entry.
pub mod Begun
pub mod Check
