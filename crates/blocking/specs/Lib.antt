pub mod Push
pub mod Flows
pub mod Phases
pub mod Model
