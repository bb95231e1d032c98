pub mod Records
pub mod Rooms
