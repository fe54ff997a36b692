pub mod Book
pub mod Scanners
pub mod Traces
pub mod Walks
