mod Linear
mod Tabled
mod Framed
mod TaskTabled
pub mod Fronted
