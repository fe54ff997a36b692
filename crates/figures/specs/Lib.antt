pub mod Figures
pub mod PairFigures
