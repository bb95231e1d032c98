pub mod Parts
pub mod Chains
