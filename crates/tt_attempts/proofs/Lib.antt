pub mod RunLaws
pub mod OrderLaws
pub mod EndLaws
pub mod AdvanceLaws
pub mod ForeignLaws
pub mod StunLaws
pub mod BegunLaws
pub mod DrawLaws
