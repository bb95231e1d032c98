pub mod Cuts
pub mod Editions
pub mod Logs
