pub mod LineReads
pub mod ReadBytes
pub mod Sizes
pub mod SplitLines
