pub mod Chains
pub mod Counting
pub mod Hearings
pub mod Sayings
pub mod Pacings
