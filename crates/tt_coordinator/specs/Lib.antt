pub mod Setup
pub mod Summary
pub mod Serving
