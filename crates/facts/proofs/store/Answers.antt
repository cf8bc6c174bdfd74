-- `facts::store` meets its contract: the method of each word stores the fact that the word says. Assumes nothing.
use Prim.Native.Nat.{ℕ, suc}
use native.Mathlib.Omega.{arith}
use Rattle.lines.specs.Walk.{facts_from}
use Rattle.facts.proofs.FactLaws.{fact_at, place_stored, atom_stored, edge_stored}
use Rattle.facts.proofs.store.Goals as goal

-- the third of the words
abbrev edge : ℕ
edge = suc (suc facts_from)

pub returns-in-33 : goal.returns-in-33
returns-in-33 c = λ n fs low t. place_stored _ _ _ _ n fs low t _ _ (fact_at c.args.l _ c.in-33.is) c.place.ensures

pub returns-in-34 : goal.returns-in-34
returns-in-34 c = λ n fs low t. atom_stored _ _ _ _ n fs low t _ _ (fact_at c.args.l _ c.in-34.is) c.has.ensures

pub returns-in_default : goal.returns-in_default
returns-in_default c = λ n fs low t. edge_stored _ _ _ _ n fs low t _ _ _ (fact_at c.args.l edge (omega arith)) c.edge.ensures
