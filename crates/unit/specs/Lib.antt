pub mod Numbers
pub mod Presses
pub mod Readings
pub mod Rounds
pub mod Steps
