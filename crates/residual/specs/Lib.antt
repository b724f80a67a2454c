pub mod Net
pub mod Search
pub mod Layers
pub mod Laying
pub mod Plain
pub mod Readings
pub mod Paths
pub mod Leavers
