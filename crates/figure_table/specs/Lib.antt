-- The definitions that the contracts of this crate cite.
pub mod Outcomes
pub mod Reports
pub mod Texts
pub mod Readings
pub mod Verdicts
