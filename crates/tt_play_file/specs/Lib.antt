-- What a file is
pub mod File
-- How a line is read
pub mod Reading
