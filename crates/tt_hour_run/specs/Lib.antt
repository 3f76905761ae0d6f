pub mod Summed
pub mod Made
