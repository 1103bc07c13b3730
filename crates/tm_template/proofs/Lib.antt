pub mod Digits
pub mod Forms
pub mod Pieces
pub mod Loops
pub mod Words
pub mod Alone
pub mod Templates
