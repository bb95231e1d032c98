pub mod Numbers
pub mod Fields
