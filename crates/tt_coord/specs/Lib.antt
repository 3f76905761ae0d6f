pub mod Items
pub mod Coord
pub mod Stun
pub mod Turn
