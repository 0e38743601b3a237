pub mod Ones
pub mod Going
pub mod Running
