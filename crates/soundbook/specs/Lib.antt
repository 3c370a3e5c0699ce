pub mod Closures
pub mod Copies
pub mod Corners
pub mod Refusals
pub mod Rows
pub mod Sounds
pub mod Tables
pub mod Works
