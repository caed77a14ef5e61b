pub mod Appends
pub mod NoteWords
