-- The walk over the lines of the table.
pub mod TableWalk
