pub mod Columns
pub mod Form
pub mod Text
pub mod Written
