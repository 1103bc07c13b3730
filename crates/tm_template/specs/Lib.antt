pub mod References
pub mod Captured
pub mod Names
pub mod Ends
pub mod Laws
pub mod Rows
