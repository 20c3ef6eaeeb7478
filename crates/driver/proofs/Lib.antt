pub mod Worlds
pub mod InARow
pub mod Logged
pub mod Plain
