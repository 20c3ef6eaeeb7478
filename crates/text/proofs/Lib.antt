pub mod Loops
pub mod Numerals
pub mod Chunks
pub mod Held
pub mod Draws
pub mod LineLaws
pub mod ChunkLaws
pub mod NoiseLaws
