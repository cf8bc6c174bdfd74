-- `report::line_of` meets its contract: each arm has the word of its verdict, byte for byte. Assumes nothing.
use Rattle.report.specs.Printed.{printed}
use Rattle.report.proofs.line_of.Goals as goal

pub returns-in-Proved : goal.returns-in-Proved
unfolding printed
returns-in-Proved c = rw c.in-Proved.is c.in_columns.ensures

pub returns-in-Refuted : goal.returns-in-Refuted
unfolding printed
returns-in-Refuted c = rw c.in-Refuted.is c.in_columns-in-Refuted.ensures

pub returns-in-Refused : goal.returns-in-Refused
unfolding printed
returns-in-Refused c = rw c.in-Refused.is c.in_columns-in-Refused.ensures
