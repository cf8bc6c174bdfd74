-- The opening of a text is fixed: either a derivation follows or none does, since a walk to a first step shows that one does; and its first step is one,
-- since two walks from the beginning that end at a first step are the same. Assumes nothing.
use Prim.Native.Nat.{ℕ}
use mathlib.Core.List.{List, map}
use mathlib.Core.Path.{◌≡◌, refl, sym, ap, ◌∙◌}
use Rattle.alc.specs.Table.{Table}
use Rattle.alc.specs.Shown.{answered, record_of, records}
use Rattle.alc.specs.Verdict.{State as Judged}
use Rattle.alc.specs.declared.Answer.{Answer}
use Rattle.alc.specs.declared.Goal.{Goal as Records}
use Rattle.parts.proofs.Through.{both_last}
use Rattle.states.specs.Standing.{state_of, begun_of}
use Rattle.states.specs.declared.State.{State}
use Rattle.opening.specs.Opened.{Opens}
use Rattle.opening.specs.declared.Opening.{Opening}
use Rattle.opening.specs.declared.Opening.TheVariants.{Decided, Follows}

-- the state with another goal
abbrev pub with_goal : Records → State → State
with_goal g s = state_of g s.counts s.open s.steps s.reached.lines s.reached.at

-- the two openings are the same, but for what lies behind the count of the goal
pub data Alike : Opening → Opening → Type 0 where
  decided : {a b : Answer} → answered a ≡ answered b → Alike (Decided a) (Decided b)
  follows : {T U : Table} {s r : State} → T ≡ U → records s.goal ≡ records r.goal → ((g : Records) → with_goal g s ≡ with_goal g r) → Alike (Follows T s) (Follows U r)

pub one_opening : (n : ℕ) (text : List ℕ) (o p : Opening) → Opens n text o → Opens n text p → Alike o p
one_opening n text (Decided a) (Decided b) d e = decided (d.answer ∙ sym e.answer)
one_opening n text (Decided a) (Follows U r) d e = absurd (d.none _ _ _ _ e.wide e.short e.begins.walk)
one_opening n text (Follows T s) (Decided b) d e = absurd (e.none _ _ _ _ d.wide d.short d.begins.walk)
one_opening n text (Follows T s) (Follows U r) d e =
    let b = d.begins in
    let c = e.begins in
    let q = both_last b.walk c.walk refl refl in
    follows (ap (λ (S : Judged). S.table) q.2) (b.current ∙ ap (λ (S : Judged). map record_of S.claims) q.2 ∙ sym c.current)
    (λ g. ap (with_goal g) b.state ∙ ap (λ (k : ℕ). begun_of g k s.reached.lines) q.1 ∙ ap (begun_of g r.reached.at) q.0 ∙ sym (ap (with_goal g) c.state))
