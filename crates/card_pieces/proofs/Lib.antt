pub mod Shown
pub mod Coincide
