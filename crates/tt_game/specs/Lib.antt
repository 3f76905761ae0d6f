pub mod Items
pub mod Messages
pub mod Apart
