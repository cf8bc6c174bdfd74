-- `Runs`: what an opening comes to after which a derivation follows.
pub mod Runs
