pub mod LeavesShown
