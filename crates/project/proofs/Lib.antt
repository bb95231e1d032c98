pub mod Cones
pub mod Ready
