-- `Seeking` of the field among the words.
pub mod Seeking
