pub mod Bitmaps
pub mod ColumnCards
