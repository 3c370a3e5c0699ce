pub mod Chaining
pub mod Running
pub mod Shown
