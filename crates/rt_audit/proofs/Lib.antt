pub mod Times
mod Zeros
mod Digits
mod Pairs
mod Rolled
