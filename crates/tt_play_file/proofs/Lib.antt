pub mod LineLaws
pub mod FileLaws
