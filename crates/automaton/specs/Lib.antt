pub mod File
pub mod Limits
pub mod Runs
pub mod Laws
pub mod Sound
