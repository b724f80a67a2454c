mod Digits
mod Placing
pub mod Lengths
mod Passing
pub mod Fitting
pub mod Assembling
mod Worked
