pub mod Counting
pub mod Holding
pub mod Joining
