pub mod Parts
pub mod Settle
