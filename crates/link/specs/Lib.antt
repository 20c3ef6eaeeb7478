pub mod Ways
pub mod Rows
pub mod Promise
