pub mod ListLaws
pub mod RoundLaws
pub mod PartLaws
pub mod ScriptLaws
