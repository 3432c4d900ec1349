pub mod RowsListed
