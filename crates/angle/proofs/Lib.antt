pub mod Zeta
