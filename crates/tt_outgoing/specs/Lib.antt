pub mod Waiting
pub mod Outgoing
pub mod Staging
pub mod Sources
pub mod Companies
pub mod Carrying
