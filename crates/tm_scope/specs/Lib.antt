pub mod Numbered
pub mod Links
pub mod Entries
pub mod Scopes
