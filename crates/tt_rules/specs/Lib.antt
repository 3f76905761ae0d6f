pub mod Codes
pub mod Reasons
pub mod Statuses
pub mod Companies
pub mod Commands
pub mod Verdict
pub mod Digest
