pub mod Finite
pub mod Refused
pub mod Coincide
