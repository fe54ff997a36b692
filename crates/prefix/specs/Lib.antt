pub mod Words
pub mod States
pub mod Masks
pub mod Tree
pub mod Row
pub mod Parts
pub mod Subtrees
pub mod Listed
