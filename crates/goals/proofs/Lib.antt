-- `RecordLaws`: records of claims, and lists of them. `Steps`: what is found among records is what the rows say of claims. `Determined`: what is said of
-- a turn leaves one.
pub mod RecordLaws
pub mod Steps
pub mod Determined
