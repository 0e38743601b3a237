pub mod Faults
pub mod Replies
pub mod Joined
pub mod Parts
pub mod Makes
pub mod Serves
