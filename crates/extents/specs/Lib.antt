-- A table line's elements from those of its parts.
pub mod Extent
