pub mod Precond
