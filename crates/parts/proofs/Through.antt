-- Walks over lines that pass: the judge is where a walk ends, since it takes the same lines. Since one line at most stands at a position, two walks from
-- one place are the same as far as both go; and since each word has its places, no walk leads from a part to one before it. Assumes nothing.
use Prim.Native.Nat.{ℕ, zero, suc, ◌+◌, ◌≤◌}
use mathlib.Core.Bool.{Bool, true, not, ◌||◌}
use mathlib.Core.List.{List}
use mathlib.Core.Logic.{◌⊎◌, inl, inr}
use mathlib.Core.Path.{◌≡◌, refl, sym, ap, subst, ◌∙◌}
use native.Mathlib.Omega.{arith}
use native.Mathlib.Numerals.{add-one}
use lib.Dec.{eqb, leb}
use lib.ListN.{length, get_or, drop}
use borrow.Author.Tests.{eqb-true, leb-true}
use Rattle.lines.specs.Text.{at_claims, words, row_of, word_count, allowed, lines_of}
use Rattle.lines.specs.Walk.{read_at}
use Rattle.lines.specs.declared.Line.{Line}
use Rattle.lines.specs.declared.Next.TheVariants.{Found}
use Rattle.lines.proofs.Words.{allowed_within}
use Rattle.reading.proofs.Loop.{when_found}
use Rattle.alc.specs.Rows.{refusal}
use Rattle.alc.specs.Meaning.{every_below}
use Rattle.alc.specs.Dossier.{unread, sayings, saying}
use Rattle.alc.specs.Verdict.{Part, table, claims, steps, start, facts, State, place, rows, after, judge}
use Rattle.alc.proofs.Logic.{every_true}
use Rattle.parts.specs.Parts.{Through, none, line}
use Rattle.parts.proofs.Judging.{judge_next}

-- no line that passes stands at the position
abbrev pub Stuck : List ℕ → ℕ → State → Type 0
Stuck text at S = (l : Line) (next : ℕ) → read_at text at (place S.part) ≡ Found l next → refusal (rows S (saying l)) ≡ 0 → ⊥

pub found_same : {l k : Line} {a b : ℕ} → Found l a ≡ Found k b → (l ≡ k) × (a ≡ b)
found_same e = (cc, cc)

module _ {text : List ℕ} where
  pub through_then : {n a m b k c : ℕ} {S E F : State} → Through text n a S m b E → Through text m b E k c F → Through text n a S k c F
  through_then none w = w
  through_then (line r p v) w = line r p (through_then v w)

  -- one line more, which leads to F
  pub through_next : {n a m b : ℕ} {S E : State} → Through text n a S m b E → (l : Line) (to : ℕ) (F : State)
      → read_at text b (place E.part) ≡ Found l to → refusal (rows E (saying l)) ≡ 0 → after E (saying l) ≡ F → Through text n a S (m + 1) to F
  through_next {n} {a} {m} {b} {S} {E} v l to F r p e =
      subst (λ k. Through text n a S k to F) (sym (add-one m))
      (through_then v (line r p (subst (Through text (suc m) to (after E (saying l)) (suc m) to) e none)))

  pub through_judge : {n a m b : ℕ} {S E : State} → Through text n a S m b E → judge n S (lines_of (drop a text)) ≡ judge m E (lines_of (drop b text))
  through_judge none = refl
  through_judge (line {n} {at} {next} {S = S} {l = l} r p v) = judge_next text at _ n S refl l next (when_found text at _ l next r) p ∙ through_judge v

  -- each line has a byte at least, and ends within the text
  pub through_bounds : {n a m b : ℕ} {S E : State} → Through text n a S m b E → (a ≤ length text) × (n ≤ a) → (b ≤ length text) × (m ≤ b)
  through_bounds none h = h
  through_bounds (line {at = at} {next = next} {l = l} r p v) h =
      let f = when_found text at _ l next r in
      through_bounds v (f.within, omega (arith, f.later, h))

  -- of two walks from one place, the one leads on to where the other ends
  pub through_either : {n a m b k c : ℕ} {S E F : State} → Through text n a S m b E → Through text n a S k c F
      → Through text m b E k c F ⊎ Through text k c F m b E
  through_either none w = inl w
  through_either (line r p v) none = inr (line r p v)
  through_either {n} {S = S} {F = F} (line {next = x} {l = l} r p v) (line {next = y} {m = k} {to = c} {l = j} r' p' w) =
      let q : (j ≡ l) × (y ≡ x) = found_same (sym r' ∙ r) in
      through_either v
      (subst (λ z. Through text (suc n) x (after S (saying z)) k c F) q.0 (subst (λ z. Through text (suc n) z (after S (saying j)) k c F) q.1 w))

-- HOW FAR a state is: 0 in the table, 1 in the claims, 2 right behind `proof` or `model`, 3 further on
abbrev first : ℕ → ℕ
first zero = 2
first (suc n) = 3

abbrev stage_in : Part → ℕ → ℕ
stage_in table n = 0
stage_in claims n = 1
stage_in steps n = first n
stage_in start n = 2
stage_in facts n = 3

abbrev pub stage : State → ℕ
stage S = stage_in S.part S.steps

-- a word that is allowed in part q leads to such a stage
test : State → Part → (ℕ → Bool) → Line → ℕ → Bool
test S q p l w = not (allowed (place q) w) || p (stage (after S (get_or (sayings l.side l.n0 l.n1 l.n2) w unread)))

tested : (S : State) (q : Part) (p : ℕ → Bool) (l : Line) → every_below word_count (test S q p l) ≡ true → allowed (place q) l.word ≡ true
    → p (stage (after S (saying l))) ≡ true
unfolding test
tested S q p l h a = go (every_true (test S q p l) word_count h l.word (allowed_within l.word (place q) a))
  where
    go : test S q p l l.word ≡ true → p (stage (after S (saying l))) ≡ true
    go e = rw a at e

-- from the claims none leads back to the table, and from behind them each leads further: tests of all words
pub out_of_table : (S : State) (l : Line) → allowed at_claims l.word ≡ true → 1 ≤ stage (after S (saying l))
unfolding test words row_of after
out_of_table S l a = leb-true 1 _ (tested S claims (leb 1) l refl a)

further : (S : State) (q : Part) (n : ℕ) (l : Line) → 2 ≤ stage_in q n → allowed (place q) l.word ≡ true → stage (after S (saying l)) ≡ 3
unfolding test words row_of after
further S table n l h a = absurd (omega arith)
further S claims n l h a = absurd (omega arith)
further S steps n l h a = eqb-true _ 3 (tested S steps (λ k. eqb k 3) l refl a)
further S start n l h a = eqb-true _ 3 (tested S start (λ k. eqb k 3) l refl a)
further S facts n l h a = eqb-true _ 3 (tested S facts (λ k. eqb k 3) l refl a)

onward : (S : State) (q : Part) (n : ℕ) (l : Line) → 1 ≤ stage_in q n → allowed (place q) l.word ≡ true → 1 ≤ stage (after S (saying l))
onward S table n l h a = absurd (omega arith)
onward S claims n l h a = out_of_table S l a
onward S steps n l h a = omega (arith, further S steps 0 l (omega arith) a)
onward S start n l h a = omega (arith, further S start n l (omega arith) a)
onward S facts n l h a = omega (arith, further S facts n l (omega arith) a)

-- the two walks stand at one place
abbrev pub Same : ℕ → ℕ → State → ℕ → ℕ → State → Type 0
Same n a S m b E = (n ≡ m) × (a ≡ b) × (S ≡ E)

pub turn : {n a m b : ℕ} {S E : State} → Same n a S m b E → Same m b E n a S
turn q = (sym q.0, sym q.1, sym q.2)

module _ {text : List ℕ} where
  pub through_on : {n a m b : ℕ} {S E : State} → Through text n a S m b E → 1 ≤ stage S → 1 ≤ stage E
  through_on none h = h
  through_on (line {at = at} {next = next} {S = S} {l = l} r p v) h =
      through_on v (onward S S.part S.steps l h (when_found text at _ l next r).allowed)

  -- behind the first line from there on
  through_past : {n a m b : ℕ} {S E : State} → Through text n a S m b E → stage S ≡ 3 → stage E ≡ 3
  through_past none h = h
  through_past (line {at = at} {next = next} {S = S} {l = l} r p v) h =
      through_past v (further S S.part S.steps l (omega (arith, h)) (when_found text at _ l next r).allowed)

  pub through_behind : {n a m b : ℕ} {S E : State} → Through text n a S m b E → 2 ≤ stage S → 2 ≤ stage E
  through_behind none h = h
  through_behind (line {at = at} {next = next} {S = S} {l = l} r p v) h =
      omega (arith, through_past v (further S S.part S.steps l h (when_found text at _ l next r).allowed))

  -- a walk from right behind `proof` or `model` to such a place is empty, and so is one from where no line passes
  through_last : {n a m b : ℕ} {S E : State} → Through text n a S m b E → 2 ≤ stage S → stage E ≡ 2 → Same n a S m b E
  through_last none h e = (refl, refl, refl)
  through_last (line {at = at} {next = next} {S = S} {l = l} r p v) h e =
      absurd (omega (arith, through_past v (further S S.part S.steps l h (when_found text at _ l next r).allowed), e))

  through_stuck : {n a m b : ℕ} {S E : State} → Through text n a S m b E → Stuck text a S → Same n a S m b E
  through_stuck none h = (refl, refl, refl)
  through_stuck (line {next = next} {l = l} r p v) h = absurd (h l next r p)

  -- TWO WALKS from one place
  module _ {n a m b k c : ℕ} {S E F : State} (v : Through text n a S m b E) (w : Through text n a S k c F) where
    pub both_last : stage E ≡ 2 → stage F ≡ 2 → Same m b E k c F
    both_last e f = go (through_either v w)
      where
        go : Through text m b E k c F ⊎ Through text k c F m b E → Same m b E k c F
        go (inl u) = through_last u (omega (arith, e)) f
        go (inr u) = turn (through_last u (omega (arith, f)) e)

    pub both_stuck : Stuck text b E → Stuck text c F → Same m b E k c F
    both_stuck e f = go (through_either v w)
      where
        go : Through text m b E k c F ⊎ Through text k c F m b E → Same m b E k c F
        go (inl u) = through_stuck u e
        go (inr u) = turn (through_stuck u f)

    -- none is stuck before `proof` or `model` where the other comes to be right behind it
    pub apart : Stuck text b E → stage E ≤ 1 → stage F ≡ 2 → ⊥
    apart s e f = go (through_either v w)
      where
        go : Through text m b E k c F ⊎ Through text k c F m b E → ⊥
        go (inl u) = let z : stage E ≡ stage F = ap (λ (Z : State). stage Z) (through_stuck u s).2 in omega (arith, z, e, f)
        go (inr u) = omega (arith, through_behind u (omega (arith, f)), e)
