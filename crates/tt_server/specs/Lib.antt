pub mod Saved
pub mod Summary
pub mod Serving
