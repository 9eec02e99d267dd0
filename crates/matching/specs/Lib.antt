-- What a match is, and how an assignment stands in a row.
pub mod Row
pub mod Match
pub mod Inner
