-- `facts::read_size` meets its contract: the first line is judged as a size, and a size that is in its range is one of a model.
-- Assumes nothing.
use mathlib.Core.Path.{sym, ◌∙◌}
use Rattle.reading.proofs.Loop.{when_found, when_bad, when_end}
use Rattle.facts.proofs.FactLaws.{found_told}
use Rattle.facts.proofs.Ends.{begins_bad, begins_end, begins_ranges, begun, sized}
use Rattle.facts.proofs.read_size.Goals as goal

pub ranged-requires : goal.ranged-requires
ranged-requires c = (found_told _ _ _ _ _ (when_found _ _ _ _ _ (sym c.read.ensures ∙ c.in-Found.is))).known

pub returns-then-not-ranged : goal.returns-then-not-ranged
returns-then-not-ranged c = begins_ranges _ _ _ _ _ _ (when_found _ _ _ _ _ (sym c.read.ensures ∙ c.in-Found.is)) (sym c.ranged.ensures ∙ c.if-not-ranged.true)

pub invariant_of-result : goal.invariant_of-result
invariant_of-result c = record {
  sized = sized _ _ c.args.from.lines _ _ _ (when_found _ _ _ _ _ (sym c.read.ensures ∙ c.in-Found.is)) c.requires.bounds.2 (sym c.ranged.ensures ∙ c.if-not-ranged.false);
}

pub returns-else-not-ranged : goal.returns-else-not-ranged
returns-else-not-ranged c =
    begun _ _ _ _ _ _ (when_found _ _ _ _ _ (sym c.read.ensures ∙ c.in-Found.is)) c.requires.bounds.2 (sym c.ranged.ensures ∙ c.if-not-ranged.false) c.requires.bounds.1

pub returns-in-Bad : goal.returns-in-Bad
returns-in-Bad c = begins_bad c.args.text.now c.args.from.at _ _ (when_bad _ _ _ (sym c.read.ensures ∙ c.in-Bad.is))

pub returns-in-End : goal.returns-in-End
returns-in-End c = begins_end c.args.text.now c.args.from.at _ _ (when_end _ _ _ (sym c.read.ensures ∙ c.in-End.is))
