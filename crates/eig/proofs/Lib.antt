pub mod Diagonal
pub mod Rank1
pub mod Halves
