pub mod Destinations
pub mod LeadsOf
