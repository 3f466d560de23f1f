pub mod JournalText
pub mod Journals
pub mod Reading
pub mod Seen
