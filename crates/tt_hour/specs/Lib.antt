pub mod Hour
pub mod Left
