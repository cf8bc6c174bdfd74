-- `Digits` of a number read digit by digit.
pub mod Digits
