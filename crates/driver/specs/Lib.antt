pub mod Log
pub mod Played
pub mod Driving
