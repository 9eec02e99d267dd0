-- What the proof goes by.
pub mod Readings
