pub mod Booleans
pub mod Kept
pub mod Texts
pub mod Depths
pub mod Reading
pub mod Paths
pub mod Begins
