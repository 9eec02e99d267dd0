-- Laws of the drawn plan: that the ordering breaks no rule, that its bytes hold it, and that Check plan accepts them.
pub mod Ordering
pub mod Packing
pub mod Drawing
pub mod Turns
pub mod Answers
pub mod Worked
