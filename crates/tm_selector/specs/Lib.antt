pub mod Names
pub mod Tokens
pub mod Syntax
pub mod Selector
pub mod Walk
pub mod Grammar
