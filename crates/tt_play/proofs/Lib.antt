mod Runs
pub mod Completes
