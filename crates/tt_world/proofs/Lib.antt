pub mod SoundLaws
pub mod CommandLaws
pub mod SignLaws
pub mod FrameLaws
pub mod NameLaws
pub mod FoundLaws
pub mod ApplyLaws
