-- `Asked`: what is asked of the caller, and the fact that a line is. `Read`: what the reading of the facts comes to.
pub mod Asked
pub mod Read
