pub mod Depths
pub mod Moves
pub mod Passes
pub mod Pieces
pub mod Reach
pub mod Runs
pub mod Turns
