-- The statements stand in `Theorems`; each of the other files stands on those above it.
-- Facts of Bool, numbers and lists of claims, and of the concept table.
pub mod Logic
pub mod ListFacts
pub mod Trees
pub mod Numbered
pub mod Different
-- Each rule is sound, each is the slide's, and so is what they derive.
pub mod Sound
pub mod RulesSound
pub mod Slides
pub mod Derive
-- The lines, from the first to the end.
pub mod Passing
pub mod Places
pub mod Runs
pub mod Heard
pub mod Ending
pub mod Verdicts
pub mod Listed
-- What the verdicts mean; the known dossiers.
pub mod Meant
pub mod NotNew
pub mod Known
pub mod Theorems
-- For the code: its records and arrays lose nothing; the last arm of a `match`.
pub mod Stored
pub mod Refusals
pub mod ShownLaws
pub mod Arms
