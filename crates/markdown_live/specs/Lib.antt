pub mod ShownLines
pub mod Growing
pub mod LiveMarkdowns
pub mod SourceSteps
pub mod Sources
pub mod Laws
