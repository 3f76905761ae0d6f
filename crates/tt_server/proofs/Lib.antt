pub mod Lines
pub mod Asked
mod SavedWorlds
mod Statuses
