pub mod Options
pub mod Values
pub mod Forms
pub mod Addresses
pub mod Found
