pub mod Ends
pub mod inner
pub mod Passed
