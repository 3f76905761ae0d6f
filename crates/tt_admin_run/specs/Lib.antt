pub mod Sending
pub mod Agendas
pub mod Telling
pub mod Hearing
pub mod Rounds
pub mod Session
pub mod Listening
pub mod Speaking
