pub mod Sounds
pub mod Frames
pub mod Doings
pub mod Sessions
pub mod Ends
pub mod Turns
pub mod InSteps
