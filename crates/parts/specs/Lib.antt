pub mod Fields
pub mod Parts
