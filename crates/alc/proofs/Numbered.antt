-- A table of the form, line by line: what holds of each line and the lines above it holds at each number, for the lines above line i are those with
-- smaller numbers. And two lines pass the test of equality exactly where they are equal.
-- Assumes nothing.
use Prim.Native.Nat.{ℕ, zero, suc, ◌≤◌, ◌<◌}
use native.Mathlib.Omega.{arith}
use mathlib.Core.Bool.{true, false, ◌&&◌, decide, decide_iff}
use mathlib.Core.List.{List, [], ◌∷◌, ◌++◌, append-nil}
use mathlib.Core.Logic.{◌↔◌, ◌≢◌}
use mathlib.Core.Path.{◌≡◌, refl, sym, ap, ◌∙◌}
use lib.Dec.{eqb}
use lib.ListN.{length, get_or, take}
use lib.Seq.{append_snoc, length-take-le, get_or-take}
use borrow.Author.Tests.{eqb-true, eq-eqb}
use Rattle.alc.specs.Lists.{All}
use Rattle.alc.specs.Table.{Table, Entry, Kind-discrete, entry, entry_of, same_entry, stands, entry_fields}
use Rattle.alc.specs.Table as Table
use Rattle.alc.specs.Reading.{InTurn, InRange, GoodTable}
use Rattle.lines.proofs.Laws.{is_false}
use Rattle.alc.proofs.Logic.{both_true, clash}
use Rattle.alc.proofs.ListFacts.{any-All, All-none, All-at}

module _ {A : Type 0} (d : A) where
  -- what holds at each number holds of all
  at-All : (P : A → Type 0) (l : List A) → ((i : ℕ) → i < length l → P (get_or l i d)) → All P l
  at-All P [] h = tt
  at-All P (x ∷ l) h = (h 0 (omega arith), at-All P l (λ i k. h (suc i) (omega arith)))

  turn_at : (P : List A → A → Type 0) (before l : List A) → InTurn P before l → (i : ℕ) → i < length l → P (before ++ take i l) (get_or l i d)
  turn_at P before [] h i k = absurd (omega arith)
  turn_at P before (x ∷ l) h zero k = rw append-nil h.0
  turn_at P before (x ∷ l) h (suc i) k = rw append_snoc at (turn_at P (before ++ (x ∷ [])) l h.1 i (omega arith))

  at_turn : (P : List A → A → Type 0) (before l : List A) → ((i : ℕ) → i < length l → P (before ++ take i l) (get_or l i d)) → InTurn P before l
  at_turn P before [] h = tt
  at_turn P before (x ∷ l) h =
      (rw append-nil at (h 0 (omega arith)), at_turn P (before ++ (x ∷ [])) l (λ i k. rw append_snoc (h (suc i) (omega arith))))

same_entry_lem : (e f : Entry) → same_entry e f ≡ true → e ≡ f
same_entry_lem e f h =
    let a = both_true (decide (Kind-discrete e.kind f.kind) && eqb e.x f.x) (eqb e.y f.y) h in
    let b = both_true (decide (Kind-discrete e.kind f.kind)) (eqb e.x f.x) a.0 in
    ap (λ k. entry_of k e.x e.y) ((decide_iff (Kind-discrete e.kind f.kind)).0 b.0) ∙ ap (λ x. entry_of f.kind x e.y) (eqb-true e.x f.x b.1)
    ∙ ap (λ y. entry_of f.kind f.x y) (eqb-true e.y f.y a.1)

entry_same : (e : Entry) → same_entry e e ≡ true
entry_same e = rw ((decide_iff (Kind-discrete e.kind e.kind)).1 refl, eq-eqb e.x e.x refl, eq-eqb e.y e.y refl)

-- the table as document 01 says it: at most 256 lines, the fields of line i in the range of number i, no two lines equal
pub table_iff : (T : Table) → GoodTable T
    ↔ ((length T ≤ 256) × ((i : ℕ) → i < length T → InRange i 0 (entry_fields (entry T i))) × ((i j : ℕ) → i < j → j < length T → entry T i ≢ entry T j))
table_iff T = (λ t. (t.few, ranges t, differ t), λ h. record { few = h.0; ranges = in_turn h.1; differ = apart h.2 })
  where
    top : Entry
    top = entry_of Table.top 0 0

    Ranged : Table → Entry → Type 0
    Ranged us e = InRange (length us) 0 (entry_fields e)

    ranges : GoodTable T → (i : ℕ) → i < length T → InRange i 0 (entry_fields (entry T i))
    ranges t i k = rw (length-take-le i T (omega arith)) at (turn_at top Ranged [] T t.ranges i k)

    differ : GoodTable T → (i j : ℕ) → i < j → j < length T → entry T i ≢ entry T j
    differ t i j l k q =
        let above = any-All (same_entry (entry T j)) (take j T) (turn_at top (λ us e. stands us e ≡ false) [] T t.differ j k) in
        let here = All-at top (λ f. same_entry (entry T j) f ≡ false) (take j T) above i (rw (length-take-le j T (omega arith)) l) in
        clash (same_entry (entry T j) (entry T i)) (rw q (entry_same (entry T j))) (rw (get_or-take j T i top l) at here)

    in_turn : ((i : ℕ) → i < length T → InRange i 0 (entry_fields (entry T i))) → InTurn Ranged [] T
    in_turn h = at_turn top Ranged [] T (λ i k. rw (length-take-le i T (omega arith)) (h i k))

    apart : ((i j : ℕ) → i < j → j < length T → entry T i ≢ entry T j) → InTurn (λ us e. stands us e ≡ false) [] T
    apart h =
        at_turn top (λ us e. stands us e ≡ false) [] T
        (λ j k. All-none (same_entry (entry T j)) (take j T)
        (at-All top (λ f. same_entry (entry T j) f ≡ false) (take j T)
        (λ i l. let m : i < j = rw (length-take-le j T (omega arith)) at l in
        rw (get_or-take j T i top m) (is_false (same_entry (entry T j) (entry T i)) (λ e. h i j m k (sym (same_entry_lem (entry T j) (entry T i) e)))))))
