pub mod Books
pub mod Examples
pub mod Presses
