pub mod Crossing
pub mod Fixed
pub mod Insides
pub mod Listed
pub mod ReadPatterns
pub mod Searching
