pub mod Messages
pub mod Memory
pub mod Stations
pub mod Heeding
pub mod Shapes
