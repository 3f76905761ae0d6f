pub mod Hub
pub mod Running
pub mod Laws
pub mod Isolation
