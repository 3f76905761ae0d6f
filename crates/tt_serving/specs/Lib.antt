pub mod Page
pub mod Statuses
pub mod Told
