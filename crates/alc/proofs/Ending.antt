-- The end of the lines, in four cases: `proved` with no goal open, `refuted` by a model that gets every claim as it should, 12 where something is
-- missing, 13 with the first claim that the model gets wrong. There is one case for every state, and the definition gives each its verdict.
-- Assumes nothing.
use Prim.Native.Nat.{ℕ, suc, ◌+◌, ◌<◌}
use native.Mathlib.Omega.{arith}
use mathlib.Core.Bool.{Bool, true, false, not, cond}
use mathlib.Core.List.{List, [], ◌∷◌, ◌++◌}
use mathlib.Core.Logic.{◌↔◌, ◌⊎◌, inl, inr}
use mathlib.Core.Path.{◌≡◌, refl, sym, ap, ap₂, subst, ◌∙◌}
use lib.Dec.{ltb}
use lib.ListN.{length, length-append}
use borrow.Author.Tests.{lt-ltb, le-ltb, not-true, not-false}
use Rattle.alc.specs.Lists.{All, is_empty, first_at}
use Rattle.alc.specs.Meaning.{Interp}
use Rattle.alc.specs.Table.{Table}
use Rattle.alc.specs.Claims.{Sided, left, right, truth, holds_by, holds}
use Rattle.alc.specs.Model.{interp_of, all_placed}
use Rattle.alc.specs.Verdict.{Verdict, proved, refuted, refused, Part, table, claims, steps, start, facts, State, end_in, ending}
use Rattle.alc.specs.Accepts.{Against}
use Rattle.alc.specs.Refusal.{unfinished_in, unfinished, FirstWrong}
use Rattle.alc.proofs.ListFacts.{All-map, any-All, All-none}

-- THE FIRST ELEMENT THAT PASSES A TEST
module _ {A : Type 0} (p : A → Bool) where
  first_none : (l : List A) → All (λ x. p x ≡ false) l → first_at p l ≡ length l
  first_none [] h = refl
  first_none (x ∷ l) h = rw h.0 (ap suc (first_none l h.1))

  first_there : (before : List A) (x : A) (behind : List A) → All (λ y. p y ≡ false) before → p x ≡ true → first_at p (before ++ (x ∷ behind)) ≡ length before
  first_there [] x behind h e = rw e
  first_there (y ∷ before) x behind h e = rw h.0 (ap suc (first_there before x behind h.1 e))

  record Found (l : List A) : Type 0 where
    pub before : List A
    pub it : A
    pub behind : List A
    pub parts : l ≡ before ++ (it ∷ behind)
    pub none : All (λ x. p x ≡ false) before
    pub passes : p it ≡ true

  -- there is none, or there is a first
  seek : (l : List A) → All (λ x. p x ≡ false) l ⊎ Found l
  seek [] = inl tt
  seek (x ∷ l) = go (p x) refl (seek l)
    where
      go : (b : Bool) → p x ≡ b → All (λ y. p y ≡ false) l ⊎ Found l → All (λ y. p y ≡ false) (x ∷ l) ⊎ Found (x ∷ l)
      go true e r = inr (record { before = []; it = x; behind = l; parts = refl; none = tt; passes = e })
      go false e (inl h) = inl (e, h)
      go false e (inr f) =
          inr (record {
            before = x ∷ f.before;
            it = f.it;
            behind = f.behind;
            parts = ap (λ z. x ∷ z) f.parts;
            none = (e, f.none);
            passes = f.passes;
          })

-- THE CLAIMS OF A MODEL
module _ (T : Table) (I : Interp) where
  -- left claims true and right claims false: the sequent holds by none
  against_bad : (s : Sided) → Against T I s → holds_by T I s ≡ false
  against_bad (left c) h = ap not h
  against_bad (right c) h = h

  bad_against : (s : Sided) → holds_by T I s ≡ false → Against T I s
  bad_against (left c) h = not-false (truth T I c) h
  bad_against (right c) h = h

  pub against_fails : (cs : List Sided) → All (Against T I) cs ↔ (holds T I cs ≡ false)
  against_fails cs = (λ h. All-none (holds_by T I) cs (All-map against_bad cs h), λ e. All-map bad_against cs (any-All (holds_by T I) cs e))

  found_wrong : (cs : List Sided) (f : Found (holds_by T I) cs) → FirstWrong T I cs (length f.before)
  found_wrong cs f =
      record { before = f.before; wrong = f.it; behind = f.behind; claims = f.parts; agrees = All-map bad_against f.before f.none; differs = f.passes; count = refl }

  wrong_first : (cs : List Sided) (m : ℕ) → FirstWrong T I cs m → first_at (holds_by T I) cs ≡ m
  wrong_first cs m f =
      ap (first_at (holds_by T I)) f.claims ∙ first_there (holds_by T I) f.before f.wrong f.behind (All-map against_bad f.before f.agrees) f.differs
      ∙ sym f.count

  wrong_below : (cs : List Sided) (m : ℕ) → FirstWrong T I cs m → m < length cs
  wrong_below cs m f = omega (arith, f.count, ap length f.claims, length-append f.before (f.wrong ∷ f.behind))

-- THE END OF n LINES
pub data Ends (n : ℕ) (E : State) : Verdict → Type 0 where
  closed : E.part ≡ steps → is_empty E.goals ≡ true → Ends n E (proved n)
  falsified : E.part ≡ facts → all_placed E.facts E.claims ≡ true → All (Against E.table (interp_of E.size E.facts)) E.claims → Ends n E (refuted n)
  missing : unfinished E ≡ true → Ends n E (refused 12 (suc n))
  wrong : {m : ℕ} → E.part ≡ facts → unfinished E ≡ false → FirstWrong E.table (interp_of E.size E.facts) E.claims m
      → Ends n E (refused 13 (suc (length E.table + m)))

module _ (n : ℕ) (E : State) where
  -- each state has its case
  case : (v : Verdict) × Ends n E v
  case = go E.part refl
    where
      in_steps_lem : E.part ≡ steps → (b : Bool) → is_empty E.goals ≡ b → (v : Verdict) × Ends n E v
      in_steps_lem h true t = (proved n, closed h t)
      in_steps_lem h false t = (refused 12 (suc n), missing (ap (λ p. unfinished_in p E) h ∙ ap not t))

      in_facts_lem : E.part ≡ facts → (b : Bool) → all_placed E.facts E.claims ≡ b
          → All (λ s. holds_by E.table (interp_of E.size E.facts) s ≡ false) E.claims ⊎ Found (holds_by E.table (interp_of E.size E.facts)) E.claims
          → (v : Verdict) × Ends n E v
      in_facts_lem h false t r = (refused 12 (suc n), missing (ap (λ p. unfinished_in p E) h ∙ ap not t))
      in_facts_lem h true t (inl k) = (refuted n, falsified h t (All-map (bad_against E.table (interp_of E.size E.facts)) E.claims k))
      in_facts_lem h true t (inr f) = (
        refused 13 (suc (length E.table + length f.before)),
        wrong h (ap (λ p. unfinished_in p E) h ∙ ap not t) (found_wrong E.table (interp_of E.size E.facts) E.claims f),
      )

      go : (p : Part) → E.part ≡ p → (v : Verdict) × Ends n E v
      go table h = (refused 12 (suc n), missing (ap (λ p. unfinished_in p E) h))
      go claims h = (refused 12 (suc n), missing (ap (λ p. unfinished_in p E) h))
      go steps h = in_steps_lem h (is_empty E.goals) refl
      go start h = (refused 12 (suc n), missing (ap (λ p. unfinished_in p E) h))
      go facts h = in_facts_lem h (all_placed E.facts E.claims) refl (seek (holds_by E.table (interp_of E.size E.facts)) E.claims)

  missing_in : (p : Part) → unfinished_in p E ≡ true → end_in p n E ≡ refused 12 (suc n)
  missing_in table u = refl
  missing_in claims u = refl
  missing_in steps u = rw (not-true (is_empty E.goals) u)
  missing_in start u = refl
  missing_in facts u = rw u

  -- what the end of a model comes to, by its two tests and the place of the first claim that is wrong
  tested : (a : Bool) (b : Bool) (w : ℕ) → E.part ≡ facts → not (all_placed E.facts E.claims) ≡ a
      → first_at (holds_by E.table (interp_of E.size E.facts)) E.claims ≡ w → ltb w (length E.claims) ≡ b
      → ending n E ≡ cond a (refused 12 (suc n)) (cond b (refused 13 (suc (length E.table + w))) (refuted n))
  unfolding ending
  tested a b w h s f t =
      ap (λ p. end_in p n E) h
      ∙ ap₂ (λ c v. cond c (refused 12 (suc n)) (cond (ltb v (length E.claims)) (refused 13 (suc (length E.table + v))) (refuted n))) s f
      ∙ ap (λ c. cond a (refused 12 (suc n)) (cond c (refused 13 (suc (length E.table + w))) (refuted n))) t

  -- and each case its verdict
  pub ends_so : {v : Verdict} → Ends n E v → ending n E ≡ v
  unfolding ending
  ends_so (closed h g) = ap (λ p. end_in p n E) h ∙ rw g
  ends_so (falsified h a c) =
      let by_one = holds_by E.table (interp_of E.size E.facts) in
      let all = first_none by_one E.claims (All-map (against_bad E.table (interp_of E.size E.facts)) E.claims c) in
      tested false false (length E.claims) h (ap not a) all (le-ltb (length E.claims) (length E.claims) (omega arith))
  ends_so (missing u) = missing_in E.part u
  ends_so (wrong {m} h u f) =
      let I = interp_of E.size E.facts in
      tested false true m h (sym (ap (λ p. unfinished_in p E) h) ∙ u) (wrong_first E.table I E.claims m f)
      (lt-ltb m (length E.claims) (wrong_below E.table I E.claims m f))

  pub ends : Ends n E (ending n E)
  ends = subst (Ends n E) (sym (ends_so case.1)) case.1
