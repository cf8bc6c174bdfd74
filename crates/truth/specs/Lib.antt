-- A claim's truth, read off the sets.
pub mod Truth
