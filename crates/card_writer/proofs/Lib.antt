pub mod Fronts
pub mod Bytes
pub mod Writing
pub mod Values
pub mod Back
pub mod Forth
pub mod RoundTrip
