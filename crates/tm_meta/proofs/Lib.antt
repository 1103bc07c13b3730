pub mod Leftmost
pub mod Matches
pub mod Metas
pub mod Letters
