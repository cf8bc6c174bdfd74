-- `FieldLaws`: the fields of a line and their kinds. `Small`: its numbers fit a byte. `Said`: what the words of a part say. `Judging`: one line of the
-- judge at a time. `Through`: walks over lines that pass. `Stops`: what ends the table and the claims. `Determined`: the text fixes both.
-- `TableLaws`: a line of the table, and its rows.
pub mod FieldLaws
pub mod Small
pub mod Said
pub mod Judging
pub mod Through
pub mod Stops
pub mod Determined
pub mod TableLaws
