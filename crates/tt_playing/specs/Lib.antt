pub mod Begun
pub mod Attached
pub mod Played
pub mod Playing
pub mod InStep
