pub mod PageMarks
