mod Guards
mod Admitting
mod Bounds
mod Shapes
mod Limits
