pub mod Operator
pub mod ByStorage
