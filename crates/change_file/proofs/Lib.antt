-- Laws of the change file: what its fields hold.
pub mod Reading
