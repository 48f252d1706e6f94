pub mod Rivers
