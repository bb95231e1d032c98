pub mod Words
pub mod Same
