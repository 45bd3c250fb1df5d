pub mod Alike
pub mod Firsts
pub mod Found
pub mod Given
pub mod HeadingsKept
pub mod Packing
pub mod Read
pub mod Told
mod Examples
mod DataExamples
mod DetailsExamples
mod NotesExamples
mod TellingExamples
mod HeadingsExamples
