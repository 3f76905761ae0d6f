pub mod LineLaws
pub mod AdminsKept
pub mod HearingLaws
