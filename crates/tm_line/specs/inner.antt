pub mod FoundWithin
pub mod Grouped
pub mod Prepared
pub mod Searched
