pub mod Said
pub mod Record
pub mod Iterate
