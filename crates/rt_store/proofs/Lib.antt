mod Audited
mod Collected
mod Counting
mod Crashing
mod Drawn
mod Gated
mod Kept
mod Leading
mod Named
mod Placed
mod Ranged
mod Redone
mod Refusing
mod Undone
pub mod Prelude
