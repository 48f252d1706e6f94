pub mod Rules
pub mod Calls
pub mod Places
pub mod Names
pub mod Plans
pub mod Telling
pub mod PlanLines
pub mod Laws
