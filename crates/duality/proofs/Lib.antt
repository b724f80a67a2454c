pub mod Flows
pub mod Duality
pub mod Examples
pub mod Findings
