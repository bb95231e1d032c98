pub mod Texts
pub mod Answers
pub mod Whole
pub mod Coincide
pub mod EmptyCard
pub mod AnyNan
pub mod FirstLines
