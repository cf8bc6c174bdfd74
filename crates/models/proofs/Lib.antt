-- The laws behind the functions' proofs. For callers: `Facts`, what the lines of a model say and what a model tells; `InRange`, what the
-- functions above ask of the claims; `Goals`, goals walked claim by claim.
pub mod Stores
pub mod Goals
pub mod Facts
pub mod InRange
