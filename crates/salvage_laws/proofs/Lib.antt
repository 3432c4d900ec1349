pub mod ShownSlots
pub mod OwnForms
pub mod Salvaged
pub mod KeptEntries
pub mod LostRows
