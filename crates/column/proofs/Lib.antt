pub mod Bitwise
pub mod Fields
pub mod Listing
pub mod Numbers
pub mod Scans
