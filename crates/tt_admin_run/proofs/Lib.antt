pub mod SendingLaws
pub mod HearingLaws
pub mod ListenLaws
pub mod SpeakLaws
pub mod RunLaws
