pub mod Hearing
pub mod Turns
pub mod Transcripts
pub mod Laws
