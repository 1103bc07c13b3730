pub mod Example
pub mod Painted
pub mod Painting
