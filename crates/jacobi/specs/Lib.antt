-- What the private functions of this crate owe each other.
pub mod Sizes
pub mod Loops
