pub mod Keyed
pub mod Sources
