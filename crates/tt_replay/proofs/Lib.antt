pub mod Compared
pub mod Answering
pub mod Reports
pub mod Words
pub mod ReportLines
