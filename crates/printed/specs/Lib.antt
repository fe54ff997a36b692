pub mod Lines
pub mod Small
pub mod Images
