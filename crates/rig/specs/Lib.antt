pub mod Rigs
pub mod Making
