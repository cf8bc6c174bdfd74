-- What has been read, whatever lines were read: the table, the claims, the steps or the model of the state are those of the lines, and they are of
-- the form. True before the first line, and each line that passes its rows keeps it so.
-- Assumes nothing.
use Prim.Native.Nat.{ℕ, suc, ◌≤◌}
use native.Mathlib.Omega.{arith}
use mathlib.Core.Bool.{true, false, ◌&&◌, false≢true}
use mathlib.Core.List.{List, [], ◌∷◌, ◌++◌, map, append-nil, append_assoc}
use mathlib.Core.Path.{◌≡◌, refl, ap}
use lib.Dec.{ltb, leb}
use lib.ListN.{length, length-append}
use lib.Seq.{append_snoc}
use borrow.Author.Tests.{leb-true, ltb-true, not-true}
use Rattle.alc.specs.Table.{Table, stands, entry_fields}
use Rattle.alc.specs.Claims as Claims
use Rattle.alc.specs.Claims.{Sided, Goal, claim_fields}
use Rattle.alc.specs.Rules.{Step, plan}
use Rattle.alc.specs.Goals.{premises, step_rows, goals_after}
use Rattle.alc.specs.Model.{Fact, repeats}
use Rattle.alc.specs.Dossier.{Said, concept, claim, proof, model, step, size, fact}
use Rattle.alc.specs.Verdict.{table, claims, steps, start, facts, State, state, begin, rows, after}
use Rattle.alc.specs.Reading.{InTurn, InRange, GoodTable, GoodClaims, GoodSteps, GoodModel}
use Rattle.alc.specs.Derivation.{Works, done, on}
use Rattle.alc.specs.Refusal.{AllPassed}
use Rattle.alc.proofs.Logic.{both_true}
use Rattle.alc.proofs.ListFacts.{All-map, All-append, every-All}
use Rattle.alc.proofs.Slides.{rule_of}
use Rattle.alc.proofs.Derive.{works-append}
use Rattle.alc.proofs.Places.{
  Turn,
  turn,
  a_concept,
  a_claim,
  next_claim,
  at_once_proof,
  then_proof,
  at_once_model,
  then_model,
  a_step,
  a_size,
  a_fact,
}
use Rattle.alc.proofs.Runs.{Run, stop, read, fact_range}

pub data Heard : State → List Said → Type 0 where
  in_table_lem : {T : Table} → GoodTable T → Heard (state table T [] 0 [] 0 []) (map concept T)
  in_claims_lem : {T : Table} {cs : List Sided} → GoodTable T → GoodClaims T cs → Heard (state claims T cs 0 [] 0 []) (map concept T ++ map claim cs)
  in_steps_lem : {T : Table} {cs : List Sided} {ss : List Step} {gs : List Goal} → GoodTable T → GoodClaims T cs → GoodSteps T ss → Works T ss (cs ∷ []) gs
      → Heard (state steps T cs (length ss) gs 0 []) (map concept T ++ (map claim cs ++ (proof ∷ map step ss)))
  in_start : {T : Table} {cs : List Sided} → GoodTable T → GoodClaims T cs → Heard (state start T cs 0 [] 0 []) (map concept T ++ (map claim cs ++ (model ∷ [])))
  in_facts_lem : {T : Table} {cs : List Sided} {n : ℕ} {fs : List Fact} → GoodTable T → GoodClaims T cs → GoodModel n fs
      → Heard (state facts T cs 0 [] n fs) (map concept T ++ (map claim cs ++ (model ∷ size n ∷ map fact fs)))

-- ONE MORE, of lists
module _ {A B : Type 0} (f : A → B) where
  map_snoc : (xs : List A) (x : A) → map f xs ++ (f x ∷ []) ≡ map f (xs ++ (x ∷ []))
  map_snoc [] x = refl
  map_snoc (y ∷ xs) x = ap (λ z. f y ∷ z) (map_snoc xs x)

module _ {A : Type 0} where
  turn-snoc : (P : List A → A → Type 0) (before xs : List A) (x : A) → InTurn P before xs → P (before ++ xs) x → InTurn P before (xs ++ (x ∷ []))
  turn-snoc P before [] x h k = (rw append-nil at k, tt)
  turn-snoc P before (y ∷ xs) x h k = (h.0, turn-snoc P (before ++ (y ∷ [])) xs x h.1 (rw append_snoc k))

  one_more : (xs : List A) (x : A) (n : ℕ) → ltb (length xs) n ≡ true → length (xs ++ (x ∷ [])) ≤ n
  one_more xs x n e = omega (arith, length-append xs (x ∷ []), ltb-true (length xs) n e)

  length-snoc : (xs : List A) (x : A) → suc (length xs) ≡ length (xs ++ (x ∷ []))
  length-snoc xs x = omega (arith, length-append xs (x ∷ []))

-- ONE MORE LINE
no_claims : (T : Table) → GoodClaims T []
no_claims T = record { few = omega arith; ranges = tt }

more_claims : (T : Table) (cs : List Sided) (s : Sided) → GoodClaims T cs → ltb (length cs) 64 ≡ true → InRange (length T) 0 (claim_fields (Claims.claim s))
    → GoodClaims T (cs ++ (s ∷ []))
more_claims T cs s c l r = record { few = one_more cs s 64 l; ranges = All-append _ cs (s ∷ []) c.ranges (r, tt) }

no_steps : (T : Table) → GoodSteps T []
no_steps T = record { few = omega arith; ranges = tt }

-- a step that passes its rows works on the current goal
work_step : (T : Table) (s : Step) (n : ℕ) (g : Goal) (gs : List Goal) → AllPassed (step_rows T n (g ∷ gs) s) → Works T (s ∷ []) (g ∷ gs) (goals_after T s (g ∷ gs))
unfolding step_rows goals_after
work_step T s n g gs p =
    let q = p.1.1.1 in
    let ps = premises (plan T s) g in
    on (rule_of T g s (record { asks = q.0; needs = q.1.0; news = q.1.1.0 }))
    (All-map (λ h t. leb-true (length h) 64 t) ps (every-All (λ h. leb (length h) 64) ps q.1.1.1.0)) (leb-true (length (ps ++ gs)) 17 q.1.1.1.1.0) done

step_works : (T : Table) (s : Step) (n : ℕ) (gs : List Goal) → AllPassed (step_rows T n gs s) → Works T (s ∷ []) gs (goals_after T s gs)
unfolding step_rows
step_works T s n [] p = absurd (false≢true p.1.0)
step_works T s n (g ∷ gs) p = work_step T s n g gs p

step_good : (T : Table) (ss : List Step) (s : Step) (gs : List Goal) → GoodSteps T ss → AllPassed (step_rows T (length ss) gs s) → GoodSteps T (ss ++ (s ∷ []))
unfolding step_rows
step_good T ss s gs g p = record { few = one_more ss s 1024 p.0; ranges = All-append _ ss (s ∷ []) g.ranges (p.1.1.0, tt) }

next : {S : State} {past : List Said} → Heard S past → {s : Said} → Turn S.part s → AllPassed (rows S s) → Heard (after S s) (past ++ (s ∷ []))
unfolding rows after
next (in_table_lem {T} t) (a_concept {e}) p =
    rw (map_snoc concept T e)
    (in_table_lem (record {
      few = one_more T e 256 p.0;
      ranges = turn-snoc (λ us f. InRange (length us) 0 (entry_fields f)) [] T e t.ranges p.1.0;
      differ = turn-snoc (λ us f. stands us f ≡ false) [] T e t.differ (not-true (stands T e) p.1.1.0);
    }))
next (in_table_lem {T} t) (a_claim {s}) p = in_claims_lem {cs = s ∷ []} t (more_claims T [] s (no_claims T) p.0 p.1.0)
next (in_table_lem {T} t) at_once_proof p = in_steps_lem {cs = []} {ss = []} t (no_claims T) (no_steps T) done
next (in_table_lem {T} t) at_once_model p = in_start {cs = []} t (no_claims T)
next (in_claims_lem {T} {cs} t c) (next_claim {s}) p = rw (append_assoc, map_snoc claim cs s) (in_claims_lem t (more_claims T cs s c p.0 p.1.0))
next (in_claims_lem {T} {cs} t c) then_proof p = rw append_assoc (in_steps_lem {ss = []} t c (no_steps T) done)
next (in_claims_lem {T} {cs} t c) then_model p = rw append_assoc (in_start t c)
next (in_steps_lem {T} {cs} {ss} {gs} t c g w) (a_step {s}) p =
    rw (append_assoc, append_assoc, map_snoc step ss s, length-snoc ss s)
    (in_steps_lem t c (step_good T ss s gs g p) (works-append T w (step_works T s (length ss) gs p)))
next (in_start {T} {cs} t c) (a_size {n}) p =
    let b = both_true (leb 1 n) (leb n 32) (both_true (leb 1 n && leb n 32) true p.0).0 in
    rw (append_assoc, append_assoc) (in_facts_lem {fs = []} t c (record { least = leb-true 1 n b.0; most = leb-true n 32 b.1; ranges = tt; differ = tt }))
next (in_facts_lem {T} {cs} {n} {fs} t c m) (a_fact {f}) p =
    rw (append_assoc, append_assoc, map_snoc fact fs f)
    (in_facts_lem t c (record {
      least = m.least;
      most = m.most;
      ranges = All-append _ fs (f ∷ []) m.ranges (fact_range (length T) 0 n f p.0, tt);
      differ = turn-snoc (λ us h. repeats us h ≡ false) [] fs f m.differ (not-true (repeats fs f) p.1.0);
    }))

heard_run : {S E : State} {past ss : List Said} → Heard S past → Run S ss E → Heard E (past ++ ss)
heard_run h stop = rw append-nil h
heard_run {past = past} h (read {S} {E} {s} {ss} f p w) = rw append_snoc at (heard_run (next h (turn S.part s f) p) w)

-- from the first line on
pub heard : {E : State} {ss : List Said} → Run begin ss E → Heard E ss
heard w = heard_run (in_table_lem {T = []} (record { few = omega arith; ranges = tt; differ = tt })) w
