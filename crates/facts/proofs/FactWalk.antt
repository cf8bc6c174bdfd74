-- The walk over the facts of a model: the model tells the facts read so far, and the judge is where the walk is. Assumes nothing.
use Prim.Native.Nat.{ℕ, ◌+◌, ◌≤◌, ◌<◌}
use native.Mathlib.Omega.{arith}
use native.Mathlib.Numerals.{add-one}
use mathlib.Core.Bool.{Bool, true, false}
use mathlib.Core.List.{List, [], ◌∷◌, ◌++◌}
use mathlib.Core.Path.{◌≡◌, refl, sym, ap, ap₂, subst, ◌∙◌}
use lib.ListN.{length, drop}
use Rattle.lines.specs.Text.{at_facts, word_count, lines_of}
use Rattle.lines.specs.Walk.{facts_from}
use Rattle.lines.specs.declared.Line.{Line}
use Rattle.lines.proofs.Told.{Told}
use Rattle.reading.proofs.Loop.{Line-found, Line-bad}
use Rattle.alc.specs.Lists.{All, every}
use Rattle.alc.specs.Ranges.{in_range}
use Rattle.alc.specs.Model.{Fact, fact_fields}
use Rattle.alc.specs.Dossier.{saying}
use Rattle.alc.specs.Verdict.{refused, after, ending, judge}
use Rattle.parts.specs.Fields.{said_fields}
use Rattle.parts.proofs.Judging.{judge_end, judge_bad, judge_next, judge_refused}
use Rattle.models.specs.Shown.{Below}
use Rattle.models.specs.Told.{Tells}
use Rattle.facts.specs.Asked.{in_facts, fact_in, Stored}
use Rattle.facts.specs.Read.{Judged, Left}
use Rattle.models.specs.declared.Model.{Model}
use Rattle.alc.specs.Meaning.{World}
use Rattle.facts.proofs.FactLaws.{found_told, fact_word, fact_said, fact_fits, fact_small, fact_3, fact_4, fact_0}

-- a model that tells facts of n elements has n
told_size : (n : ℕ) (fs : List Fact) (m : Model) → Tells n fs m → m.size.count ≡ n
told_size n fs m t = ap (λ (W : World). W.size) t.world

-- the walk: n lines read, the next at `at`
pub record Walk (text : List ℕ) (start before entries size : ℕ) (m : Model) (at n : ℕ) : Type 0 where
  pub facts : List Fact
  pub within : at ≤ length text
  pub counted : n ≤ at
  pub tells : Tells size facts m
  pub so : Judged text start before entries size (λ T cs. judge n (in_facts T cs size facts) (lines_of (drop at text)))

module _ (text : List ℕ) (start before entries size : ℕ) (m : Model) (le : entries ≤ 256) (at n : ℕ) (v : Walk text start before entries size m at n) where
  -- the walk stops: at a line that is refused or at the end
  pub stops_bad : Line-bad text at at_facts → Judged text start before entries size (λ T cs. refused 2 (n + 1))
  stops_bad b T cs e = v.so T cs e ∙ judge_bad text at at_facts n (in_facts T cs size v.facts) refl b ∙ ap (refused 2) (sym (add-one n))

  pub stops_end : lines_of (drop at text) ≡ [] → Left text start before entries size m n
  unfolding ending
  stops_end z = record {
    facts = v.facts;
    judged = λ T cs e. v.so T cs e ∙ judge_end n (in_facts T cs size v.facts) _ z;
    told = v.tells;
    counted = omega (arith, v.counted, v.within);
  }

  module _ (l : Line) (to : ℕ) (f : Line-found text at at_facts l to) where
    t : Told l
    t = found_told text at at_facts l to f

    w : facts_from ≤ l.word
    w = fact_word l f.allowed

    few : size ≤ 32
    few = omega (arith, told_size size v.facts m v.tells, m.size.sized.most)

    -- the line's numbers, in the ranges of the model's size or not
    in_size : (b : Bool) → every (in_range entries m.size.count) (said_fields (saying l)) ≡ b → every (in_range entries size) (said_fields (saying l)) ≡ b
    in_size b = subst (λ (k : ℕ). every (in_range entries k) (said_fields (saying l)) ≡ b) (told_size size v.facts m v.tells)

    pub stops_ranges : every (in_range entries m.size.count) (said_fields (saying l)) ≡ false → Judged text start before entries size (λ T cs. refused 3 (n + 1))
    stops_ranges h T cs e =
        let S = in_facts T cs size v.facts in
        v.so T cs e
        ∙ judge_refused text at at_facts n S refl l to f 3 (fact_3 l t w T cs entries size v.facts e (in_size false h)) (λ (z : ◌≡◌ {A = ℕ} 3 0). omega arith)
        ∙ ap (refused 3) (sym (add-one n))

    module _ (h : every (in_range entries m.size.count) (said_fields (saying l)) ≡ true) where
      pub line_small : (facts_from ≤ l.word) × (l.word < word_count) × All (Below 0 32) (fact_fields (fact_in l))
      line_small = (w, t.known, fact_small l t w entries size le few (in_size true h))

      pub line_fits : All (Below 0 size) (fact_fields (fact_in l))
      line_fits = fact_fits l t w entries size le few (in_size true h)

      module _ (new : Model) (fresh : Bool) (s : Stored size v.facts (fact_in l) new fresh) where
        pub stops_repeat : fresh ≡ false → Judged text start before entries size (λ T cs. refused 4 (n + 1))
        stops_repeat q T cs e =
            let S = in_facts T cs size v.facts in
            v.so T cs e
            ∙ judge_refused text at at_facts n S refl l to f 4 (fact_4 l t w T cs entries size v.facts e le few (in_size true h) (sym s.answer ∙ q)) (λ (z : ◌≡◌ {A = ℕ} 4 0). omega arith)
            ∙ ap (refused 4) (sym (add-one n))

        -- the walk goes on: the fact is stored
        pub walk_more : fresh ≡ true → Walk text start before entries size new to (n + 1)
        unfolding after
        walk_more q = record {
          facts = v.facts ++ (fact_in l ∷ []);
          within = f.within;
          counted = omega (arith, v.counted, f.later);
          tells = s.told q;
          so = λ T cs e.
              let S = in_facts T cs size v.facts in
              v.so T cs e
              ∙ judge_next text at at_facts n S refl l to f (fact_0 l t w T cs entries size v.facts e le few (in_size true h) (sym s.answer ∙ q))
              ∙ ap₂ (λ k d. judge k (after S d) (lines_of (drop to text))) (sym (add-one n)) (fact_said l t w entries size le few (in_size true h));
        }
