-- The laws behind the functions' proofs; callers have them too: `BitLaws` of the bits of a number.
pub mod BitLaws
