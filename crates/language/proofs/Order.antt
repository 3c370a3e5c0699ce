-- The order of readings: the first reading of some words exists, is one, and is what the choice gives.
pub mod Choice
pub mod Chosen
pub mod First
pub mod Items
pub mod Listed
pub mod Shallow
pub mod Strict
pub mod Total
