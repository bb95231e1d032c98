pub mod Card
pub mod Fields
pub mod Outcome
