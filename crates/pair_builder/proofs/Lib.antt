pub mod Unrolling
pub mod Closing
mod Collecting
mod Heights
mod Pieces
pub mod Lengths
pub mod Ruling
pub mod Blocks
mod Answering
mod OneBuild
