-- The words of the statements that come from the crates below
pub mod Words
-- The server as one connection sees it
pub mod Watched
-- Streams of bytes
pub mod Fed
pub mod Ends
-- A game that begins too late
pub mod Late
-- Worked games
pub mod Worked
pub mod Wrong
