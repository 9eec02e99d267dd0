-- Laws of merging the lists of a side with changes.
pub mod Copying
pub mod Inserting
pub mod Merging
pub mod Nexts
pub mod Parting
pub mod Siding
pub mod Toggles
