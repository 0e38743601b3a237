pub mod Amounts
pub mod Tree
pub mod Walk
pub mod Laws
pub mod Keep
pub mod Figures
