pub mod Longer
pub mod Tells
