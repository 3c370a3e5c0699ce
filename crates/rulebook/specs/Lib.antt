pub mod Fault
pub mod Kinds
pub mod Sentences
pub mod Sets
