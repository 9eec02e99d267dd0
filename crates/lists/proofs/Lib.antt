-- Laws of the words in specs/.
pub mod Tests
pub mod Bits
pub mod All
pub mod Count
pub mod Same
pub mod Parts
pub mod Sort
pub mod Maps
pub mod Any
pub mod Pigeonhole
pub mod Ascending
pub mod Cut
pub mod Faults
