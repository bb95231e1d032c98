pub mod TakeUp
