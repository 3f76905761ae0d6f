pub mod Pages
pub mod Parts
pub mod Statuses
pub mod Served
