pub mod Flows
pub mod Scans
pub mod Progress
pub mod Turns
pub mod Ending
