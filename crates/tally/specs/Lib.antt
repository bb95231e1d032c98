pub mod Tallies
pub mod Counted
