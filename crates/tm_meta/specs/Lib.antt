pub mod Leftmost
pub mod Metadata
pub mod Fields
