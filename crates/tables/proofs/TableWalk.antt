-- The walk over the lines of the table: what has been read is the table that the lines read so far say, since a line is put into it as it is said once
-- its rows are passed, and they are the rows that are tested. Assumes nothing.
use Prim.Native.Nat.{ℕ, zero, suc, ◌+◌, ◌≤◌, ◌<◌}
use native.Mathlib.Omega.{arith}
use mathlib.Core.Bool.{Bool, true, false, not, cond}
use mathlib.Core.List.{List, [], ◌∷◌, ◌++◌}
use mathlib.Core.Path.{◌≡◌, refl, sym, ap, subst, ◌∙◌}
use lib.Dec.{ltb}
use lib.ListN.{length, drop, length-append}
use borrow.Author.Tests.{ltb-true}
use Rattle.lines.specs.Text.{at_table, lines_of}
use Rattle.lines.specs.Walk.{claims_from, read_at}
use Rattle.lines.specs.declared.Line.{Line}
use Rattle.lines.specs.declared.Next.{Next}
use Rattle.lines.specs.declared.Next.TheVariants.{Found}
use Rattle.lines.proofs.Told.{Told, told}
use Rattle.reading.proofs.Loop.{when_found}
use Rattle.alc.specs.Lists.{every}
use Rattle.alc.specs.Rows.{refusal}
use Rattle.alc.specs.Ranges.{in_range}
use Rattle.alc.specs.Table.{Entry, Table, entry_of, stands, entry_fields}
use Rattle.alc.specs.Dossier.{concept, saying}
use Rattle.alc.specs.Shown.{kind_at}
use Rattle.alc.specs.Verdict.{rows, after, begin}
use Rattle.parts.specs.Fields.{said_fields}
use Rattle.parts.specs.Parts.{entry_in, entry_rows, in_table, Through, TableEnd, failed, Listing}
use Rattle.parts.proofs.Small.{Small, small}
use Rattle.parts.proofs.Through.{through_next}
use Rattle.parts.proofs.TableLaws.{entry_said, said_entry}

-- the judge's rows of a line of the table are those that are tested
module _ (T : Table) (few : length T ≤ 256) (l : Line) (t : Told l) (w : l.word < claims_from) where
  plain : saying l ≡ concept (entry_of (kind_at l.word) l.n0 l.n1)
  plain = said_entry l.side l.n0 l.n1 l.n2 l.word w t.first t.second

  pub rows_entry : refusal (rows (in_table T) (saying l)) ≡ refusal (entry_rows T l)
  unfolding rows entry_rows
  rows_entry = go (every (in_range (length T) 0) (said_fields (saying l))) refl
    where
      go : (b : Bool) → every (in_range (length T) 0) (said_fields (saying l)) ≡ b → refusal (rows (in_table T) (saying l)) ≡ refusal (entry_rows T l)
      go true h =
          ap (λ s. refusal (rows (in_table T) s)) (entry_said l t (small l t (length T) 0 few (omega arith) h) w)
          ∙ ap (λ s. cond (ltb (length T) 256) (cond (every (in_range (length T) 0) (said_fields s)) (cond (not (stands T (entry_in l))) 0 4) 3) 5) (sym (entry_said l t (small l t (length T) 0 few (omega arith) h) w))
      go false h =
          let e : every (in_range (length T) 0) (entry_fields (entry_of (kind_at l.word) l.n0 l.n1)) ≡ false = ap (λ s. every (in_range (length T) 0) (said_fields s)) (sym plain) ∙ h in
          ap (λ s. refusal (rows (in_table T) s)) plain ∙ (rw (e, h))

-- the walk: the lines read so far are the table T, and the next is at a position
abbrev pub Walk : List ℕ → Table → ℕ → Type 0
Walk text T at = Through text 0 0 begin (length T) at (in_table T)

module _ (text : List ℕ) (T : Table) (at : ℕ) (v : Walk text T at) where
  -- the walk stops
  pub stops : (x : Next) (k : ℕ) → read_at text at at_table ≡ x → TableEnd T x k → Listing text T at k
  stops x k e d = record { read = v; ends = subst (λ y. TableEnd T y k) (sym e) d }

  module _ (few : length T ≤ 256) (l : Line) (to : ℕ) (r : read_at text at at_table ≡ Found l to) (w : l.word < claims_from) where
    t : Told l
    t = told (drop at text) l (lines_of (drop to text)) (when_found text at at_table l to r).lines

    pub fails : (k : ℕ) → k ≡ refusal (entry_rows T l) → (k ≡ 0 → ⊥) → TableEnd T (Found l to) k
    fails zero e h = absurd (h refl)
    fails (suc k) e h = failed w (rows_entry T few l t w ∙ sym e)

    -- the walk goes on: the line is put into the table
    module _ (e : 0 ≡ refusal (entry_rows T l)) where
      passed : (ltb (length T) 256 ≡ true) × (every (in_range (length T) 0) (said_fields (saying l)) ≡ true)
      unfolding entry_rows
      passed = go (ltb (length T) 256) (every (in_range (length T) 0) (said_fields (saying l))) refl refl e
        where
          go : (a b : Bool) → ltb (length T) 256 ≡ a → every (in_range (length T) 0) (said_fields (saying l)) ≡ b → ◌≡◌ {A = ℕ} 0 (cond a (cond b (cond (not (stands T (entry_in l))) 0 4) 3) 5)
              → (ltb (length T) 256 ≡ true) × (every (in_range (length T) 0) (said_fields (saying l)) ≡ true)
          go true true p q r = (p, q)
          go true false p q r = absurd (omega arith)
          go false b p q r = absurd (omega arith)

      pub room : length T < 256
      room = omega (arith, ltb-true (length T) 256 passed.0)

      fits : Small l
      fits = small l t (length T) 0 few (omega arith) passed.1

      module _ (a : Entry) (m : a ≡ entry_in l) where
        pub own : every (in_range (length T) 0) (entry_fields a) ≡ true
        own =
            ap (λ b. every (in_range (length T) 0) (entry_fields b)) m
            ∙ ap (λ s. every (in_range (length T) 0) (said_fields s)) (sym (entry_said l t fits w))
            ∙ passed.1

        pub walk_more : (U : Table) → U ≡ T ++ (a ∷ []) → Walk text U to
        unfolding after
        walk_more U u =
            let n : length U ≡ length T + 1 = ap (λ (V : Table). length V) u ∙ length-append T (a ∷ []) in
            subst (λ k. Through text 0 0 begin k to (in_table U)) (sym n)
            (through_next v l to (in_table U) r (rows_entry T few l t w ∙ sym e)
            (ap (after (in_table T)) (entry_said l t fits w) ∙ ap (λ b. in_table (T ++ (b ∷ []))) (sym m) ∙ ap in_table (sym u)))
