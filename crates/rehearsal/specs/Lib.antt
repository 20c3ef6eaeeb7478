pub mod Noisy
pub mod Rehearsed
pub mod Laws
