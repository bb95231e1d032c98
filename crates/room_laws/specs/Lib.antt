pub mod Operators
pub mod Tau
