pub mod Beyond
pub mod Loaded
pub mod Waiting
pub mod PairLoaded
