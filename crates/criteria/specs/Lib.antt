pub mod Residuals
pub mod Judging
