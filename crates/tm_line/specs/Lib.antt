pub mod Example
pub mod Grammar
pub mod Groups
pub mod Search
pub mod Setting
pub mod Tokenizing
pub mod inner
