pub mod BoundsExact
pub mod BoundsValues
pub mod Marks
pub mod NamesExact
pub mod ReferencesExact
pub mod OneRead
pub mod OpeningsExact
pub mod Blank
pub mod Lexing
pub mod Heights
pub mod Structure
pub mod Back
pub mod GroupsRead
pub mod Laws
pub mod Turns
pub mod Steps
pub mod Settling
mod Each
pub mod Numbering
mod Ordered
