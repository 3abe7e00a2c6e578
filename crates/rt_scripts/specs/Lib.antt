pub mod Asked
pub mod Holdings
pub mod Making
pub mod Program
pub mod Ran
pub mod Report
pub mod Script
