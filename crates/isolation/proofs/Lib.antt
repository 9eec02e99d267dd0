-- Non-interference of the definitions: an answer is that of the named edges alone, and these are one list.
pub mod Own
pub mod Listed
pub mod Operators
pub mod Plans
pub mod Drawn
pub mod Bounded
pub mod Ordered
pub mod Found
pub mod Answers
pub mod Worked
