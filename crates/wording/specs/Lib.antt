pub mod Matching
pub mod Pieces
pub mod Programmes
pub mod Runs
pub mod Sets
pub mod Theorem
