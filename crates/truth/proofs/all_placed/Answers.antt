-- `truth::all_placed` meets its contract: all the names are placed just if those of each claim are. Assumes nothing.
use mathlib.Core.Bool.{Bool}
use mathlib.Core.Path.{◌≡◌, sym, ap, ◌∙◌}
use lib.ListN.{get_or}
use Rattle.alc.specs.Lists.{All, every}
use Rattle.alc.specs.Claims.{Claim, Sided, claim, claim_fields, names}
use Rattle.alc.specs.Shown.{claim_of, sided_of, blank, records, claims_in}
use Rattle.alc.specs.declared.Claim.{Claim as Record}
use Rattle.models.specs.Shown.{Below, is_seated}
use Rattle.models.specs.declared.Model.{Model}
use Rattle.models.proofs.Goals.{claim_back, cut_at, claim_in, every_more, every_here}
use Rattle.truth.proofs.all_placed.Goals as goal

-- every name in the claim is placed
abbrev seated_in : Model → Sided → Bool
seated_in m s = every (is_seated m) (names (claim s))

test : (m : Model) (c : Record) → seated_in m (sided_of c) ≡ every (is_seated m) (names (claim_of c))
test m c = ap (λ (d : Claim). every (is_seated m) (names d)) (claim_back c)

pub placed-requires : goal.placed-requires
placed-requires c = claim_in c.args.claims (λ d. All (Below 256 0) (claim_fields d)) c.requires.numbers c.loop-c.c-index c.loop-c-test.true

pub returns-then-not-placed : goal.returns-then-not-placed
returns-then-not-placed c =
    let m = c.args.model.now in
    let r = get_or (records c.args.claims) c.loop-c.c-index blank in
    sym (every_here (seated_in m) (claims_in c.args.claims) c.loop-c.c-index (sided_of r)
    (cut_at c.args.claims c.loop-c.c-index c.loop-c-test.true)
    c.loop-c.invariant
    (test m r ∙ sym c.placed.ensures ∙ c.if-not-placed.true))

pub loop-c-preserved : goal.loop-c-preserved
loop-c-preserved c =
    let m = c.args.model.now in
    let r = get_or (records c.args.claims) c.loop-c.c-index blank in
    every_more (seated_in m) (claims_in c.args.claims) c.loop-c.c-index (sided_of r)
    (cut_at c.args.claims c.loop-c.c-index c.loop-c-test.true)
    c.loop-c.invariant
    (test m r ∙ sym c.placed.ensures ∙ c.if-not-placed.false)
