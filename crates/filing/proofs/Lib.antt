pub mod Ends
mod Making
