pub mod Runs
pub mod Files
