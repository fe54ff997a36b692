pub mod Matching
pub mod Blocks
pub mod Canonical
pub mod Ruling
mod Heaviest
pub mod Standing
pub mod Collecting
mod Heights
pub mod Answering
pub mod OneBuild
