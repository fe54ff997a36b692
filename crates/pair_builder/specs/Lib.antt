pub mod Unrolled
pub mod Choosing
pub mod Build
