pub mod Chunked
pub mod Writable
pub mod WritableChunks
