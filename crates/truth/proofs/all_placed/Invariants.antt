-- The invariant of the loop: what holds of all the claims is what holds of those behind the index, so that at the end nothing is left to hold.
use mathlib.Core.Path.{◌≡◌}
use lib.ListN.{drop}
use Rattle.alc.specs.Shown.{claims_in}
use Rattle.models.specs.Shown.{all_seated}
use Rattle.truth.proofs.all_placed.Given as goal

abbrev pub invariant-loop-c : goal.invariant-loop-c
invariant-loop-c l = all_seated l.model (claims_in l.fn.claims) ≡ all_seated l.model (drop l.c-index (claims_in l.fn.claims))
