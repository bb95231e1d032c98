pub mod Tests
pub mod Writing
pub mod RoundTrip
pub mod Coincide
