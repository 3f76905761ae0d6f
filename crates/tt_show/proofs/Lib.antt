pub mod StreamTexts
pub mod ListLaws
pub mod ShowLaws
