-- What Run leaves in an array of records.
pub mod Lending
