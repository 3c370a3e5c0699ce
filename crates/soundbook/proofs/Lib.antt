pub mod Copying
pub mod Deriving
pub mod Finding
pub mod Growing
pub mod Listing
pub mod Plain
pub mod Refusing
pub mod Smallest
