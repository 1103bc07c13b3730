pub mod Script
pub mod Steps
pub mod Values
pub mod inner
