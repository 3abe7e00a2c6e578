pub mod Append
pub mod Draws
pub mod Walks
pub mod Time
