pub mod Syndromes
pub mod Repair
