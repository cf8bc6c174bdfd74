-- `Filled`: what a read leaves in the front of a buffer.
pub mod Filled
