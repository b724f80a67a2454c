pub mod Sums
pub mod Deciding
pub mod Carrying
pub mod Lists
