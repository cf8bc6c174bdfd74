-- The laws behind the functions' proofs; `Once`, that the contracts leave one outcome.
pub mod ExtentLaws
pub mod Trees
pub mod Filling
pub mod Once
