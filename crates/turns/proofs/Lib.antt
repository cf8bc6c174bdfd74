-- A goal without one of its claims.
pub mod Cuts
