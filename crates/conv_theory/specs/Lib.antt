pub mod Code
pub mod Search
pub mod Columns
pub mod Statements
