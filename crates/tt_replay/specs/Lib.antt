pub mod Report
pub mod Reporting
pub mod Expected
pub mod Statuses
pub mod InStep
