pub mod Read
pub mod Coincide
