pub mod Places
pub mod Bounding
