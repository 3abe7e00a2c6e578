pub mod Asked
pub mod Calls
pub mod Channel
pub mod Forgotten
pub mod Kept
pub mod Network
pub mod Pipe
pub mod Waiting
