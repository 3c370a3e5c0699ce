pub mod Law
pub mod Questions
pub mod Schema
pub mod States
pub mod Views
