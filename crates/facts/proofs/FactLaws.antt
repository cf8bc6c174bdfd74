-- A line at the place of the facts says one of three facts and one at the place of the size says a size: a test of all words. What its
-- word's function stores is that fact, since numbers in their ranges fit a byte. Assumes nothing.
use Prim.Native.Nat.{ℕ, ◌≤◌, ◌%◌}
use native.Mathlib.Omega.{arith}
use mathlib.Core.Bool.{Bool, true, false, not}
use mathlib.Core.List.{List, [], map}
use mathlib.Core.Path.{◌≡◌, refl, sym, ap, subst, ◌∙◌}
use lib.ListN.{length, get_or, drop}
use Rattle.lines.specs.Text.{at_size, at_facts, words, word_count, row_of, stands as allowed_at, lines_of}
use Rattle.lines.specs.Walk.{size_from, facts_from}
use Rattle.lines.specs.declared.Line.{Line}
use Rattle.lines.proofs.Told.{Told, told}
use Rattle.reading.proofs.Loop.{Line-found}
use Rattle.lines.proofs.Words.{spanned}
use Rattle.alc.specs.Lists.{All, every}
use Rattle.alc.specs.Ranges.{in_range}
use Rattle.alc.specs.Rows.{refusal}
use Rattle.alc.specs.Table.{Table}
use Rattle.alc.specs.Claims.{Sided}
use Rattle.alc.specs.Model.{Fact, places, has, edge, fact_fields, repeats}
use Rattle.alc.specs.Dossier.{size, fact, unread, facts, sayings, saying}
use Rattle.alc.specs.Verdict.{rows}
use Rattle.parts.specs.Fields.{said_fields}
use Rattle.parts.proofs.Said.{said_part}
use Rattle.parts.proofs.Small.{Small, small}
use Rattle.parts.proofs.TableLaws.{byte}
use Rattle.models.specs.Shown.{Below, PlaceSet, AtomSet, EdgeSet}
use Rattle.models.specs.Told.{Tells}
use Rattle.models.specs.declared.Model.{Model}
use Rattle.models.proofs.InRange.{in_range_lem}
use Rattle.models.proofs.Facts.{atom_answer, atom_told, edge_answer, edge_told, place_answer, place_told}
use Rattle.facts.specs.Asked.{in_facts, fact_by, fact_in, Stored}

pub found_told : (text : List ℕ) (at p : ℕ) (l : Line) (to : ℕ) → Line-found text at p l to → Told l
found_told text at p l to f = told (drop at text) l (lines_of (drop to text)) f.lines

-- the words that stand at a place
pub fact_word : (l : Line) → allowed_at at_facts l ≡ true → facts_from ≤ l.word
unfolding words row_of
fact_word l a = (spanned at_facts facts_from word_count (omega arith) refl l.word a).0

pub size_word : (l : Line) → allowed_at at_size l ≡ true → l.word ≡ size_from
unfolding words row_of
size_word l a = omega (arith, spanned at_size size_from facts_from (omega arith) refl l.word a)

pub size_said : (l : Line) → l.word ≡ size_from → saying l ≡ size l.n0
size_said l e = ap (λ w. get_or (sayings l.side l.n0 l.n1 l.n2) w unread) e

-- the ranges of a fact, up to any number of elements and for any number of entries
fact_below : (e k m : ℕ) → k ≤ m → (f : Fact) → All (Below e k) (fact_fields f) → All (Below 0 m) (fact_fields f)
fact_below e k m h (places a d) b = (b.0, (omega (arith, b.1.0), tt))
fact_below e k m h (has A d) b = (b.0, (omega (arith, b.1.0), tt))
fact_below e k m h (edge r d g) b = (b.0, (omega (arith, b.1.0), (omega (arith, b.1.1.0), tt)))

module _ (l : Line) (t : Told l) (w : facts_from ≤ l.word) where
  plain : saying l ≡ fact (fact_by l.word l.n0 l.n1 l.n2)
  plain =
      let said = sayings l.side l.n0 l.n1 l.n2 in
      said_part fact said facts_from (map (λ r. r.said) (facts l.n0 l.n1 l.n2)) [] (places l.n0 l.n1) refl l.word w t.known

  module _ (e k : ℕ) (le : e ≤ 256) (lk : k ≤ 32) (h : every (in_range e k) (said_fields (saying l)) ≡ true) where
    fits : Small l
    fits = small l t e k le (omega arith) h

    pub fact_said : saying l ≡ fact (fact_in l)
    fact_said =
        plain
        ∙ (rw (byte l.n0 fits.first, byte l.n1 fits.second, byte l.n2 fits.third))

    fact_ranges : every (in_range e k) (fact_fields (fact_in l)) ≡ true
    fact_ranges = ap (λ s. every (in_range e k) (said_fields s)) (sym fact_said) ∙ h

    -- so the fact is of k elements
    pub fact_fits : All (Below 0 k) (fact_fields (fact_in l))
    fact_fits = fact_below e k k (omega arith) (fact_in l) (in_range_lem e k (fact_fields (fact_in l)) fact_ranges)

    -- and is one that can be stored
    pub fact_small : All (Below 0 32) (fact_fields (fact_in l))
    fact_small = fact_below 0 k 32 lk (fact_in l) fact_fits

  -- the rows of a fact, read from the top
  module _ (T : Table) (cs : List Sided) (e k : ℕ) (fs : List Fact) (long : length T ≡ e) where
    pub fact_3 : every (in_range e k) (said_fields (saying l)) ≡ false → refusal (rows (in_facts T cs k fs) (saying l)) ≡ 3
    unfolding rows
    fact_3 h =
        let f = fact_by l.word l.n0 l.n1 l.n2 in
        let g : every (in_range (length T) k) (fact_fields f) ≡ false = ap (λ n. every (in_range n k) (fact_fields f)) long ∙ ap (λ s. every (in_range e k) (said_fields s)) (sym plain) ∙ h in
        ap (λ s. refusal (rows (in_facts T cs k fs) s)) plain ∙ rw g

    module _ (le : e ≤ 256) (lk : k ≤ 32) (h : every (in_range e k) (said_fields (saying l)) ≡ true) where
      g : every (in_range (length T) k) (fact_fields (fact_in l)) ≡ true
      g = ap (λ n. every (in_range n k) (fact_fields (fact_in l))) long ∙ fact_ranges e k le lk h

      pub fact_4 : not (repeats fs (fact_in l)) ≡ false → refusal (rows (in_facts T cs k fs) (saying l)) ≡ 4
      unfolding rows
      fact_4 r = ap (λ s. refusal (rows (in_facts T cs k fs) s)) (fact_said e k le lk h) ∙ rw (g, r)

      pub fact_0 : not (repeats fs (fact_in l)) ≡ true → refusal (rows (in_facts T cs k fs) (saying l)) ≡ 0
      unfolding rows
      fact_0 r = ap (λ s. refusal (rows (in_facts T cs k fs) s)) (fact_said e k le lk h) ∙ rw (g, r)

-- the fact of a word's number
pub fact_at : (l : Line) (w : ℕ) → l.word ≡ w → fact_in l ≡ fact_by w (l.n0 % 256) (l.n1 % 256) (l.n2 % 256)
fact_at l w e = ap (λ k. fact_by k (l.n0 % 256) (l.n1 % 256) (l.n2 % 256)) e

-- what is stored: the fact f, whatever stands before it
module _ (f : Fact) (m new : Model) (r : Bool) (n : ℕ) (fs : List Fact) (low : All (Below 0 n) (fact_fields f)) (t : Tells n fs m) where
  pub place_stored : (a d : ℕ) → f ≡ places a d → PlaceSet m new a d r → Stored n fs f new r
  place_stored a d e s =
      let b : All (Below 0 n) (fact_fields (places a d)) = subst (λ h. All (Below 0 n) (fact_fields h)) e low in
      subst (λ h. Stored n fs h new r) (sym e) (record { answer = place_answer n fs m t new r a d s; told = place_told n fs m t new r a d b.1.0 s })

  pub atom_stored : (A d : ℕ) → f ≡ has A d → AtomSet m new A d r → Stored n fs f new r
  atom_stored A d e s =
      subst (λ h. Stored n fs h new r) (sym e) (record { answer = atom_answer n fs m t new r A d s; told = λ h. atom_told n fs m t new r A d s })

  pub edge_stored : (q d g : ℕ) → f ≡ edge q d g → EdgeSet m new q d g r → Stored n fs f new r
  edge_stored q d g e s =
      subst (λ h. Stored n fs h new r) (sym e) (record { answer = edge_answer n fs m t new r q d g s; told = λ h. edge_told n fs m t new r q d g s })
