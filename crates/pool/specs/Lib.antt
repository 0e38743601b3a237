pub mod Faults
pub mod Units
pub mod Marks
pub mod Links
pub mod Pairs
pub mod Batches
pub mod Once
