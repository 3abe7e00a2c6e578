pub mod Coherence
pub mod Escapes
pub mod Headers
pub mod Lookups
pub mod Maps
pub mod Prelude
pub mod Several
