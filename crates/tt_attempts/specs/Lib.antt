pub mod Codes
pub mod Attempts
pub mod Runs
