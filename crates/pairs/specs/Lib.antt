pub mod Strides
pub mod Match
pub mod Carries
pub mod Cards
