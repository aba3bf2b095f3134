pub mod RunTexts
pub mod proof
