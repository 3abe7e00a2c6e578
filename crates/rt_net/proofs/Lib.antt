pub mod Asked
pub mod Left
pub mod Places
pub mod Live
pub mod Quiet
pub mod Walked
pub mod Prelude
