-- The admin desk, in reading order
pub mod Asked
pub mod Hearing
pub mod Seats
