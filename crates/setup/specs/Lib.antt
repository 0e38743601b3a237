pub mod Schemes
pub mod Faults
pub mod Setups
