-- The file of commands
pub mod Commands
-- What the player has done at its end
pub mod Played
-- What it printed, against the server's journal
pub mod InStep
