pub mod Book
pub mod Scanners
