pub mod Text
pub mod Growing
pub mod EmptyCard
