-- How a client that plays stands
pub mod Running
-- What a player does, action by action
pub mod Acting
-- What a finished run did, and the status of its end
pub mod Session
pub mod Ending
-- What doing the lines that are due comes to
pub mod Doing
-- What it printed, against the server's journal
pub mod InStep
