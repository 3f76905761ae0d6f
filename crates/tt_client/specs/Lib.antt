-- The game as a client knows it
pub mod Known
-- What a client runs
pub mod Frames
pub mod Notes
pub mod Hearing
pub mod Verdicts
-- What waits to be said
pub mod Saying
-- The client over its calls
pub mod Calls
pub mod Answers
pub mod Player
-- From scratch, and as the code has it
pub mod Runs
pub mod Cutting
pub mod Held
pub mod State
-- What it makes of what it hears
pub mod Planned
-- How it stands to what its stream shows
pub mod Showing
pub mod InStep
