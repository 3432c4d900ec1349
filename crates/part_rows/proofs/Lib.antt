pub mod Places
pub mod FlagRows
