pub mod EntryLists
pub mod Marks
pub mod Renewed
pub mod Replaced
pub mod Runs
