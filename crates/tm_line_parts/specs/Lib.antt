pub mod Adds
pub mod Did
pub mod Holds
pub mod Layers
pub mod Stacks
pub mod Whole
