pub mod BytesBack
pub mod Items
pub mod Packs
pub mod PartsBack
pub mod Raws
pub mod Ruled
pub mod Frames
