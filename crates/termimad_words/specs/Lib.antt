pub mod Failures
pub mod GivenSkins
pub mod Numbers
pub mod SkinFaults
