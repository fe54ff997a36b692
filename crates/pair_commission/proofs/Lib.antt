pub mod Certain
pub mod Marking
pub mod Answering
pub mod Keeping
pub mod Owing
pub mod SoFar
