-- The definitions that the contracts of this crate cite.
pub mod Faults
pub mod Costs
pub mod Answers
pub mod Bounds
