pub mod Fitting
pub mod Joined
