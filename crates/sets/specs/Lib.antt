-- A set of elements as a number.
pub mod Bit
