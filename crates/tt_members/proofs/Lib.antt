pub mod Found
pub mod Places
pub mod Behind
pub mod Left
pub mod Marked
pub mod NameLaws
