pub mod Letters
pub mod FirstNul
pub mod Groups
pub mod EndsStored
pub mod Words
pub mod TextsLaid
