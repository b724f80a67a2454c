pub mod Filing
pub mod Writing
