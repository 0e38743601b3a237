pub mod Joined
pub mod Sound
pub mod Faults
pub mod Steps
pub mod Parts
pub mod Grants
pub mod Turns
