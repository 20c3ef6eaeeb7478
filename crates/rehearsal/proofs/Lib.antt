mod Arriving
mod Folded
mod Ending
