pub mod Chains
pub mod Fresh
pub mod Moves
pub mod Returns
pub mod Rows
pub mod Tables
pub mod Takes
