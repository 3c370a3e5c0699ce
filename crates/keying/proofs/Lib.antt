pub mod Calling
pub mod Ending
pub mod Going
pub mod Running
