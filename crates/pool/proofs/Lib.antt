pub mod Outs
pub mod Turns
pub mod Chains
pub mod Joins
pub mod Batches
