pub mod Anchors
pub mod Near
pub mod Size
pub mod Single
pub mod Code
pub mod Machine
pub mod Threads
