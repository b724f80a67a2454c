pub mod Starting
pub mod Stepping
pub mod Turning
pub mod Finishing
