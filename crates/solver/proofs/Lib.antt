pub mod Finite
pub mod Refused
