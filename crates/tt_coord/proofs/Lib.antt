pub mod CoordLaws
pub mod StunLaws
pub mod TurnLaws
