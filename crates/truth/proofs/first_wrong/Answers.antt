-- `truth::first_wrong` meets its contract. The invariant: the first wrong claim is i claims behind the first of those from the i-th on.
-- The measure is what is left of the claims. Assumes nothing.
use native.Mathlib.Omega.{arith}
use mathlib.Core.Path.{sym, ◌∙◌}
use lib.ListN.{get_or}
use Rattle.alc.specs.Shown.{sided_of, blank, claims_in}
use Rattle.models.specs.Shown.{interp_shown, Below}
use Rattle.alc.specs.Lists.{All}
use Rattle.alc.specs.Claims.{claim_fields}
use Rattle.truth.specs.Truth.{wrong_in}
use Rattle.models.proofs.Goals.{goal-length, claim_at, from, first_more, first_here}
use Rattle.truth.proofs.first_wrong.Goals as goal

pub wrong-requires-clause-numbers : goal.wrong-requires-clause-numbers
wrong-requires-clause-numbers c =
    claim_at c.args.claims c.requires.claimed.few (goal-length c.args.claims _ c.well_formed.0) (λ d. All (Below 256 0) (claim_fields d)) c.requires.claimed.numbers c.loop-i.i (omega arith)

pub loop-i-preserved : goal.loop-i-preserved
loop-i-preserved c =
    let a = c.args in (
      omega arith,
      first_more (wrong_in a.ext.now (interp_shown a.model.now)) (claims_in a.claims) c.loop-i.i (sided_of (get_or a.claims.claims c.loop-i.i blank))
          (from a.claims c.requires.claimed.few (goal-length a.claims _ c.well_formed.0) c.loop-i.i (omega arith))
          c.loop-i.invariant.1
          (sym c.wrong.ensures ∙ c.if-wrong.false),
    )

pub returns-then-wrong : goal.returns-then-wrong
returns-then-wrong c =
    let a = c.args in
    sym (first_here (wrong_in a.ext.now (interp_shown a.model.now)) (claims_in a.claims) c.loop-i.i (sided_of (get_or a.claims.claims c.loop-i.i blank))
    (from a.claims c.requires.claimed.few (goal-length a.claims _ c.well_formed.0) c.loop-i.i (omega arith))
    c.loop-i.invariant.1
    (sym c.wrong.ensures ∙ c.if-wrong.true))
