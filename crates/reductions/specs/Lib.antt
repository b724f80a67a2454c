pub mod Added
pub mod Links
pub mod Terminals
pub mod Limits
pub mod LowerBounds
