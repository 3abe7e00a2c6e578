pub mod Outsides
pub mod Places
pub mod Reserved
pub mod SortedKeys
