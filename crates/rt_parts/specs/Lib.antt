pub mod Room
pub mod Slots
