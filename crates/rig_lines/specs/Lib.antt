pub mod Codes
pub mod Fields
pub mod Shapes
pub mod Numbers
pub mod Items
pub mod Spelling
