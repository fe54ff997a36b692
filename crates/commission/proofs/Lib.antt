pub mod Answering
pub mod Certain
pub mod Marking
pub mod SoFar
