pub mod Below
pub mod Moves
pub mod Walking
pub mod Cutting
pub mod Spelled
pub mod Ascii
