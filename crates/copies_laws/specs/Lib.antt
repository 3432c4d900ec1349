pub mod Singles
pub mod Wanted
