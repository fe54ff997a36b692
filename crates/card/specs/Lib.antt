pub mod Cards
pub mod ListCards
pub mod Tandem
