pub mod Angles
pub mod Vectors
pub mod Matrix
pub mod Sweeps
pub mod Outcome
