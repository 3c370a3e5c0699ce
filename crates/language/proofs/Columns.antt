pub mod Bounds
pub mod Count
pub mod Least
pub mod Local
pub mod Theorem
