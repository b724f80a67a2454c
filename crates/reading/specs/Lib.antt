pub mod Lines
pub mod Given
pub mod Reading
pub mod Describing
