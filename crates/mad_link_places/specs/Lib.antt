pub mod LinkPlaces
pub mod NumberLaws
pub mod Numbers
