-- Laws of all orderings.
pub mod Steps
pub mod Exact
pub mod Bounds
pub mod Sorted
pub mod Laying
pub mod Turning
pub mod Scanning
pub mod Planned
pub mod Pricing
pub mod Entering
pub mod Answers
pub mod Finishing
pub mod Claimed
pub mod Worked
