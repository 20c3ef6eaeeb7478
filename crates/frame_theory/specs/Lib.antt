pub mod Format
pub mod Frame
pub mod Promise
