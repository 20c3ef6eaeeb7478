pub mod Lines
pub mod Reading
pub mod Numbers
pub mod Input
pub mod Held
pub mod Noise
pub mod Spoiling
pub mod Laws
