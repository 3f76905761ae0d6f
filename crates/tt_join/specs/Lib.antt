pub mod Inputs
pub mod Ticking
pub mod Joining
pub mod Members
pub mod Entering
pub mod Playing
pub mod Planning
pub mod Ties
