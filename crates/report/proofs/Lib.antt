-- What the functions' proofs cite; a few lines as they are printed.
pub mod Laws
pub mod Examples
