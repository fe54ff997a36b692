pub mod Entering
pub mod Filling
pub mod Turns
