pub mod Winner
pub mod WinnerLaws
pub mod Pass
pub mod Rows
pub mod Asked
pub mod Steady
pub mod Memo
pub mod inner
