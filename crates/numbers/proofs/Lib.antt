-- `Fields` of the numbers behind a word.
pub mod Fields
