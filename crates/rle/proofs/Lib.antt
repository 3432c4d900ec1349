pub mod Steps
pub mod OneRun
pub mod Folds
pub mod RestOfRun
pub mod Advancing
pub mod Pieces
pub mod Walking
pub mod Opening
pub mod Whole
mod ShortRuns
