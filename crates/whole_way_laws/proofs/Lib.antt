pub mod Written
pub mod CountedRows
pub mod WholeWay
