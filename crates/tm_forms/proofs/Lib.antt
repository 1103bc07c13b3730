pub mod Answered
pub mod BuiltSteps
pub mod Later
pub mod Utf8Texts
pub mod Values
