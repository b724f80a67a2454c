mod Sums
mod Writing
mod Reading
mod Solving
