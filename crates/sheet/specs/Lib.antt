-- The sheet: decimal numbers in text, every byte of a page with its refusals and the page count, and what is
-- claimed of the pages.
pub mod Decimal
pub mod Page
pub mod Claims
pub mod Inner
