pub mod Worked
pub mod PairWorked
