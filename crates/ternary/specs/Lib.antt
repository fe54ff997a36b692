pub mod Bits
pub mod Entries
pub mod Marks
pub mod Match
pub mod Refusals
