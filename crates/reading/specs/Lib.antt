pub mod Choices
pub mod Machines
pub mod Replays
pub mod Stacks
pub mod Walks
pub mod Written
