-- What an opening comes to after which a derivation follows: the loop over its steps can run, and its verdict is that of the text. Assumes nothing.
use Prim.Native.Nat.{ℕ}
use mathlib.Core.List.{List, [], ◌∷◌}
use mathlib.Core.Path.{◌≡◌}
use Rattle.alc.specs.Claims.{Sided}
use Rattle.alc.specs.Table.{Table}
use Rattle.alc.specs.Shown.{answered}
use Rattle.alc.specs.Verdict.{Verdict, verdict}
use Rattle.alc.specs.declared.Claim.{Claim as Record}
use Rattle.alc.specs.declared.Answer.{Answer}
use Rattle.states.specs.declared.State.{State}
use Rattle.derivation.specs.Waiting.{Waiting, Stands}
use Rattle.opening.specs.Opened.{Following}
use Rattle.opening.proofs.Begins.{begins_alone, begins_so}

pub comes_to : (n : ℕ) (text : List ℕ) (T : Table) (s : State) → Following n text T s → (l : List Record) (a : Answer)
    → ((cs : List Sided) (v : Verdict) → Stands T cs text v l s → answered a ≡ v) → answered a ≡ verdict n text
unfolding Waiting
comes_to n text T s b l a h =
    h b.begins.cs (verdict n text)
    (record {
      few = b.begins.few;
      goals = b.begins.cs ∷ [];
      count = begins_alone n text T s b;
      current = b.begins.current;
      waiting = tt;
      so = begins_so n text T s b;
    })
