pub mod Ready
pub mod Moves
pub mod Updated
