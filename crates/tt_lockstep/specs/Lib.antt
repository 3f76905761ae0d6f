-- What the theorem speaks of, in reading order
pub mod Game
pub mod Journal
pub mod Told
pub mod Server
pub mod Shown
pub mod Client
pub mod InStep
-- The client as a program runs it
pub mod Runner
-- What the theorem rests on
pub mod Facts
-- How a real server is tied to it
pub mod Leads
pub mod Dialog
pub mod Wire
-- Small games, of true servers and of wrong ones
pub mod Example
pub mod Wrong
