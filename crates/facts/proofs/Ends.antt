-- The two ends of a model. Its first line gives a size from 1 to 32. At its end the code's model gives what the facts give, since it tells
-- them: an unplaced name, the first wrong claim, or none. Assumes nothing.
use Prim.Native.Nat.{ℕ, suc, ◌+◌, ◌≤◌, ◌%◌}
use native.Mathlib.Omega.{arith}
use native.Mathlib.Numerals.{add-one}
use mathlib.Core.Bool.{Bool, true, false, cond}
use mathlib.Core.List.{List, [], ◌∷◌}
use mathlib.Core.Path.{◌≡◌, refl, sym, ap, ◌∙◌}
use lib.ListN.{length, drop}
use Rattle.lines.specs.Text.{at_size, lines_of}
use Rattle.lines.specs.declared.Line.{Line}
use Rattle.lines.proofs.Told.{Told}
use Rattle.reading.proofs.Loop.{Line-found, Line-bad}
use Rattle.alc.specs.Lists.{every}
use Rattle.alc.specs.Ranges as Ranges
use Rattle.alc.specs.Ranges.{in_range}
use Rattle.alc.specs.Rows.{refusal}
use Rattle.alc.specs.Table.{Table}
use Rattle.alc.specs.Claims.{Sided}
use Rattle.alc.specs.Dossier.{saying, size}
use Rattle.alc.specs.Verdict.{refused, rows, after, ending, judge}
use Rattle.parts.specs.Fields.{said_fields}
use Rattle.parts.specs.Parts.{at_start}
use Rattle.parts.proofs.Small.{small}
use Rattle.parts.proofs.Judging.{judge_end, judge_bad, judge_next, judge_refused}
use Rattle.parts.proofs.TableLaws.{byte}
use Rattle.sets.specs.Bit.{Sized}
use Rattle.models.proofs.InRange.{in_range_lem}
use Rattle.facts.specs.Asked.{in_facts}
use Rattle.facts.specs.Read.{JudgedIn, Begun}
use Rattle.facts.proofs.FactLaws.{found_told, size_word, size_said}

-- the size line
module _ (text : List ℕ) (at n entries : ℕ) where
  pub begins_bad : Line-bad text at at_size → JudgedIn at_start text at n entries (λ T cs. refused 2 (n + 1))
  begins_bad b T cs e = judge_bad text at at_size n (at_start T cs) refl b ∙ ap (refused 2) (sym (add-one n))

  pub begins_end : lines_of (drop at text) ≡ [] → JudgedIn at_start text at n entries (λ T cs. refused 12 (n + 1))
  unfolding ending
  begins_end z T cs e = judge_end n (at_start T cs) _ z ∙ ap (refused 12) (sym (add-one n))

  module _ (l : Line) (to : ℕ) (f : Line-found text at at_size l to) where
    t : Told l
    t = found_told text at at_size l to f

    w : saying l ≡ size l.n0
    w = size_said l (size_word l f.allowed)

    ranges_here : (T : Table) (cs : List Sided) → length T ≡ entries → (b : Bool) → every (in_range entries 0) (said_fields (saying l)) ≡ b → refusal (rows (at_start T cs) (saying l)) ≡ cond b 0 3
    unfolding rows
    ranges_here T cs long b h =
        let g : every (in_range (length T) 0) (Ranges.size l.n0 ∷ []) ≡ b = ap (λ (s : _). every (in_range entries 0) (said_fields s)) (sym w) ∙ h in
        ap (λ s. refusal (rows (at_start T cs) s)) w ∙ rw g

    pub begins_ranges : every (in_range entries 0) (said_fields (saying l)) ≡ false → JudgedIn at_start text at n entries (λ T cs. refused 3 (n + 1))
    begins_ranges h T cs long =
        judge_refused text at at_size n (at_start T cs) refl l to f 3 (ranges_here T cs long false h) (λ (z : ◌≡◌ {A = ℕ} 3 0). omega arith)
        ∙ ap (refused 3) (sym (add-one n))

    module _ (le : entries ≤ 256) (h : every (in_range entries 0) (said_fields (saying l)) ≡ true) where
      own : l.n0 % 256 ≡ l.n0
      own = byte l.n0 (small l t entries 0 le (omega arith) h).first

      pub sized : Sized (l.n0 % 256)
      sized =
          let b = in_range_lem entries 0 (Ranges.size l.n0 ∷ []) (ap (λ (s : _). every (in_range entries 0) (said_fields s)) (sym w) ∙ h) in
          record { least = omega (arith, own, b.0.0); most = omega (arith, own, b.0.1) }

      pub begun : n ≤ at → Begun text at n entries (l.n0 % 256) to
      unfolding after
      begun c = record {
        within = f.within;
        counted = omega (arith, c, f.later);
        judged = λ T cs long.
            judge_next text at at_size n (at_start T cs) refl l to f (ranges_here T cs long true h)
            ∙ ap (λ s. judge (suc n) (after (at_start T cs) s) (lines_of (drop to text))) w
            ∙ ap (λ k. judge (suc n) (in_facts T cs k []) (lines_of (drop to text))) (sym own);
      }
