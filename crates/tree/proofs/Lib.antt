pub mod Settling
pub mod Walking
pub mod Fine
pub mod Ghosts
pub mod Granted
