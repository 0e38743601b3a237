pub mod Nodes
pub mod Fields
pub mod Parts
pub mod Faults
pub mod Steps
pub mod Answers
