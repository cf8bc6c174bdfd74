-- What is said of a turn leaves one turn, whatever records the goal has: two turns of one step have the same number, and where it is 0 they keep as many
-- records and leave as many premises, of the same records, since each is said by an equation with the plan. What is said at each table that has an
-- entry at a place is said at one table at least. Assumes nothing.
use Rattle.std.proofs.Common.{ℕ, zero, suc, List, [], ◌∷◌, ◌++◌, ◌≡◌, refl, sym, ap, ◌∙◌, length, get_or, Result, Ok}
use Rattle.std.specs.Result.{IsOk}
use mathlib.Core.Path.{ap₂}
use Rattle.alc.specs.Rows.{Row}
use Rattle.alc.specs.Table.{Kind, Table, Entry, entry, entry_of}
use Rattle.alc.specs.Shown.{records, row_number}
use Rattle.alc.specs.declared.Goal.{Goal as Records}
use Rattle.alc.specs.declared.refusal.Refusal.{Refusal}
use Rattle.goals.specs.declared.Turn.{Turn}
use Rattle.goals.specs.Records.{Ruling, cut_at, added, premise_at, Makes, Turns}
use Rattle.goals.proofs.RecordLaws.{row_zero}

-- a table with the entry e at the place y
pub table_with : Entry → ℕ → Table
table_with e zero = e ∷ []
table_with e (suc y) = entry_of Kind.top 0 0 ∷ table_with e y

pub entry_with : (e : Entry) (y : ℕ) → entry (table_with e y) y ≡ e
unfolding table_with
entry_with e zero = refl
entry_with e (suc y) = entry_with e y

-- what one step does at the goal g
module _ (b : List Row) (u : Ruling) (g : Records) (w : ℕ) where
  pub one_number : (r s : Result Turn Refusal) → Turns b u (records g) w r → Turns b u (records g) w s → row_number r ≡ row_number s
  one_number r s h k = h.number ∙ sym k.number

  -- where it passes, it passes
  pub passes : (t : Turn) (s : Result Turn Refusal) → Turns b u (records g) w (Ok t) → Turns b u (records g) w s → IsOk s
  passes t s h k = row_zero s (one_number s (Ok t) k h)

  module _ (t v : Turn) (r : Turns b u (records g) w (Ok t)) (s : Turns b u (records g) w (Ok v)) where
    one_cut : cut_at t.goes (records g) ≡ cut_at v.goes (records g)
    one_cut = r.leaves.0 ∙ sym s.leaves.0

    pub one_added : added t.leaves ≡ added v.leaves
    one_added = r.leaves.1 ∙ sym s.leaves.1

    pub one_premise : (i : ℕ) → premise_at i t (records g) ≡ premise_at i v (records g)
    one_premise i = ap₂ (λ k m. k ++ get_or m i []) one_cut one_added

    pub one_kept : Makes t g → Makes v g → t.kept ≡ v.kept
    one_kept m n = m.kept ∙ ap length one_cut ∙ sym n.kept
