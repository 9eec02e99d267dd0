-- Laws of the plan file: its places, its struct, the rules turn by turn, and the answers.
pub mod Refusals
pub mod Places
pub mod Structs
pub mod Piles
pub mod Turns
pub mod Accepted
pub mod Refused
