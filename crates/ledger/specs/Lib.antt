pub mod Ledgers
pub mod Endings
pub mod Calls
pub mod Law
