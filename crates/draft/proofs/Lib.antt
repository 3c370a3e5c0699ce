pub mod Answering
pub mod Listed
pub mod Showing
pub mod Symbols
