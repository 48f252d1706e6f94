pub mod Answering
pub mod Calls
pub mod LineEnds
pub mod ProgramRuns
pub mod Reading
pub mod ShownSkins
pub mod StreamFailures
pub mod UnknownKeys
