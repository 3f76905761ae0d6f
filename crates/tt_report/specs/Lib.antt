pub mod Worlds
pub mod Entries
pub mod Clients
pub mod Summary
