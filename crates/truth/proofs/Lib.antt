-- The laws behind the functions' proofs.
pub mod ClaimLaws
pub mod Agree
