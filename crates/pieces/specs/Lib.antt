pub mod Taking
pub mod Starts
