pub mod Counts
pub mod Headings
pub mod HeadingsSaid
pub mod Named
pub mod Printed
pub mod Targets
