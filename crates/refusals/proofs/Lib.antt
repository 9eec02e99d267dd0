-- Laws of the refusals' numbers.
pub mod Laws
