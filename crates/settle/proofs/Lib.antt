pub mod Parted
pub mod Settled
