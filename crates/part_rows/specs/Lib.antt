pub mod PartRows
