pub mod WholeWay
