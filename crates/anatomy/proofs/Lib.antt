pub mod RightNumbers
pub mod NumberTests
pub mod PartCases
pub mod PartsOfLists
pub mod RowsOfParts
