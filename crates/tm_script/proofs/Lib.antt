pub mod Answered
pub mod Listed
pub mod PlainValues
pub mod Reading
