pub mod Outs
pub mod Once
pub mod Laws
pub mod Moves
pub mod Serving
