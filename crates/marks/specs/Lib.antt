pub mod Faults
pub mod Held
pub mod Linked
pub mod Once
pub mod Sound
pub mod Tabled
pub mod Units
