pub mod Crc32c
pub mod Framing
pub mod Digest
pub mod TaskEvent
