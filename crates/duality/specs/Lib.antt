pub mod Duality
pub mod Examples
pub mod Findings
pub mod Told
