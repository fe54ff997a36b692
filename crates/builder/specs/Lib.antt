pub mod Lists
pub mod Build
pub mod Gathering
