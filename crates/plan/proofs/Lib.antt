-- Laws of the plan: the sets that its results cover, and the rules.
pub mod Stacks
pub mod Sets
pub mod Piles
pub mod Joinable
