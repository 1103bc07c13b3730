pub mod Pieces
pub mod Rooms
pub mod Runs
