pub mod Contents
pub mod Laws
pub mod Places
pub mod Walks
