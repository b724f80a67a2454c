pub mod Push
pub mod Turns
pub mod Fifo
pub mod Preflow
pub mod Rising
pub mod Opening
pub mod Unpathed
pub mod Model
