pub mod ClassReading
pub mod Reading
pub mod Sides
pub mod Views
