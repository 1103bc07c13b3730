pub mod ChangedDocuments
pub mod EntryLists
pub mod KeptSteps
pub mod KeptTurns
pub mod SoundDocuments
