pub mod OptionLaws
pub mod FormLaws
pub mod AddressLaws
pub mod ClapLaws
pub mod FoundLaws
pub mod OneForm
