pub mod Outcome
pub mod Enough
pub mod EditionOne
