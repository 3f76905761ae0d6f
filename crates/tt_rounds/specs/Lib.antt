-- What is known of a link
pub mod Links
-- One after another
pub mod Chain
-- The halves of a round, and the beats of a run
pub mod Hearing
pub mod Saying
pub mod Pacing
-- The file of commands
pub mod Commands
