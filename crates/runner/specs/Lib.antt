pub mod Faults
pub mod Stops
pub mod Runs
pub mod Steps
