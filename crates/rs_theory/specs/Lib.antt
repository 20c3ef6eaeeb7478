pub mod Code
pub mod Promise
