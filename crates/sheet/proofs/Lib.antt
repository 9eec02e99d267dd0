-- Laws of decimal numbers, of the words of a list tested together, of lines and pages, and what the pages
-- hold.
pub mod Digits
pub mod Numbers
pub mod Gathered
pub mod Text
pub mod Blanked
pub mod Numbered
pub mod Rowed
pub mod Refusals
pub mod Heading
pub mod Paging
pub mod Written
pub mod Answers
pub mod Reading
pub mod Sheets
pub mod Decimals
