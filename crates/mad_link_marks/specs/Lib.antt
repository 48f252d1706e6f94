pub mod LinkMarks
