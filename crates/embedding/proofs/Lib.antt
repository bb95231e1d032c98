pub mod Fitting
pub mod Products
