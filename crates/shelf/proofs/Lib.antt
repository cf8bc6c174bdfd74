-- `Back`: what is fetched is what was stored.
pub mod Back
