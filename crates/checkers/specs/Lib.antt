pub mod Told
pub mod Seen
pub mod Planned
