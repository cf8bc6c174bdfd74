-- `Whole` of a line and of reading it, `Loop` for a caller that reads a text line by line.
pub mod Whole
pub mod Loop
