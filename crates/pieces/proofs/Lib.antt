pub mod Came
pub mod Stepped
pub mod Counts
pub mod Begun
pub mod Whole
pub mod Entered
