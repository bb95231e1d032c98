pub mod Passes
pub mod Joined
