pub mod Tree
pub mod Sizes
pub mod Includes
pub mod Readers
pub mod Rules
pub mod Candidates
pub mod Laws
pub mod inner
