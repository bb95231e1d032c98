pub mod Moves
pub mod Update
