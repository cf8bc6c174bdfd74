-- `claims::next_claim` meets its contract: the tests are the rows', in their order. Assumes nothing.
use mathlib.Core.Path.{sym, ◌∙◌}
use native.Mathlib.Omega.{arith}
use borrow.Author.Tests.{lt-ltb}
use Rattle.claims.proofs.ClaimLaws.{claim_3, claim_0}
use Rattle.claims.proofs.next_claim.Goals as goal

pub returns-then-not-ranged-clause-row : goal.returns-then-not-ranged-clause-row
returns-then-not-ranged-clause-row c =
    let a = c.args in
    claim_3 a.entries a.claims a.l (lt-ltb a.claims 64 (omega arith)) (sym c.ranged.ensures ∙ c.if-not-ranged.true)

pub returns-clause-row : goal.returns-clause-row
returns-clause-row c =
    let a = c.args in
    claim_0 a.entries a.claims a.l (lt-ltb a.claims 64 (omega arith)) (sym c.ranged.ensures ∙ c.if-not-ranged.false)
