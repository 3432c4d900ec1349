pub mod Folds
pub mod Progress
pub mod Filled
pub mod AtPlace
pub mod Looks
