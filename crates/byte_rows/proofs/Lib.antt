pub mod TextsWritten
pub mod RunTexts
