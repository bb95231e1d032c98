pub mod Steps
pub mod Logged
pub mod Runs
pub mod Outcomes
