-- `facts::read_facts` meets its contract. The invariant: the model tells the facts read, and the judge is where the walk is. The measure
-- is what is left of the text. Assumes nothing.
use mathlib.Core.Path.{sym, ◌∙◌}
use native.Mathlib.Omega.{arith}
use Rattle.reading.proofs.Loop.{when_found, when_bad, when_end}
use Rattle.facts.proofs.FactLaws.{found_told}
use Rattle.facts.proofs.FactWalk.{walk_more, line_small, line_fits, stops_bad, stops_end, stops_ranges, stops_repeat}
use Rattle.facts.proofs.read_facts.Goals as goal

pub ranged-requires : goal.ranged-requires
ranged-requires c = (found_told _ _ _ _ _ (when_found _ _ _ _ _ (sym c.read.ensures ∙ c.in-Found.is))).known

pub returns-then-not-ranged : goal.returns-then-not-ranged
returns-then-not-ranged c =
    let f = when_found _ _ _ _ _ (sym c.read.ensures ∙ c.in-Found.is) in
    stops_ranges _ _ _ _ _ _ c.requires.bounds.2 _ _ c.loop-l.invariant _ _ f (sym c.ranged.ensures ∙ c.if-not-ranged.true)

pub store-requires : goal.store-requires
store-requires c =
    let f = when_found _ _ _ _ _ (sym c.read.ensures ∙ c.in-Found.is) in
    line_small _ _ _ _ _ _ c.requires.bounds.2 _ _ c.loop-l.invariant _ _ f (sym c.ranged.ensures ∙ c.if-not-ranged.false)

pub returns-then-not-store : goal.returns-then-not-store
returns-then-not-store c =
    let v = c.loop-l.invariant in
    let f = when_found _ _ _ _ _ (sym c.read.ensures ∙ c.in-Found.is) in
    let r = sym c.ranged.ensures ∙ c.if-not-ranged.false in
    let low = line_fits _ _ _ _ _ _ c.requires.bounds.2 _ _ v _ _ f r in
    stops_repeat _ _ _ _ _ _ c.requires.bounds.2 _ _ v _ _ f r _ _ (c.store.ensures _ v.facts low v.tells) c.if-not-store.true

pub loop-l-smaller : goal.loop-l-smaller
loop-l-smaller c = let f = when_found _ _ _ _ _ (sym c.read.ensures ∙ c.in-Found.is) in omega (arith, f.later, f.within)

pub loop-l-preserved : goal.loop-l-preserved
loop-l-preserved c =
    let v = c.loop-l.invariant in
    let f = when_found _ _ _ _ _ (sym c.read.ensures ∙ c.in-Found.is) in
    let r = sym c.ranged.ensures ∙ c.if-not-ranged.false in
    let low = line_fits _ _ _ _ _ _ c.requires.bounds.2 _ _ v _ _ f r in
    walk_more _ _ _ _ _ _ c.requires.bounds.2 _ _ v _ _ f r _ _ (c.store.ensures _ v.facts low v.tells) c.if-not-store.false

pub returns-in-Bad : goal.returns-in-Bad
returns-in-Bad c = stops_bad _ _ _ _ _ _ c.requires.bounds.2 _ _ c.loop-l.invariant (when_bad _ _ _ (sym c.read.ensures ∙ c.in-Bad.is))

pub returns-in-End : goal.returns-in-End
returns-in-End c = stops_end _ _ _ _ _ _ c.requires.bounds.2 _ _ c.loop-l.invariant (when_end _ _ _ (sym c.read.ensures ∙ c.in-End.is))
