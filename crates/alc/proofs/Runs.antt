-- What the lines say, one after the other at their places: the same as the lines themselves, since a line that passes its rows stands at its place.
-- And a dossier of the form is read through: table, claims, steps or model pass their rows, line by line, with what stands before each.
-- Assumes nothing.
use Prim.Native.Nat.{ℕ, suc, ◌+◌, ◌≤◌, ◌<◌}
use native.Mathlib.Omega.{arith}
use native.Mathlib.Nat.{add-zero, zero-add}
use mathlib.Core.Bool.{Bool, true, false, not, cond, false≢true}
use mathlib.Core.List.{List, [], ◌∷◌, ◌++◌, map, append-nil}
use mathlib.Core.Path.{◌≡◌, refl, sym, ap, subst, ◌∙◌}
use lib.Dec.{leb}
use lib.ListN.{length, length-append}
use lib.Seq.{append_snoc}
use borrow.Author.Tests.{le-leb, lt-ltb}
use Rattle.lines.specs.declared.Item.{Item}
use Rattle.alc.specs.Lists.{All}
use Rattle.alc.specs.Table.{Table, stands, entry_fields}
use Rattle.alc.specs.Claims as Claims
use Rattle.alc.specs.Claims.{Sided, Goal, claim_fields}
use Rattle.alc.specs.Rules.{Step, step_fields, plan}
use Rattle.alc.specs.Goals.{premises, step_rows, goals_after}
use Rattle.alc.specs.Model.{Fact, places, has, edge, fact_fields, repeats}
use Rattle.alc.specs.Dossier.{Said, concept, claim, proof, model, step, size, fact, unread, said_by}
use Rattle.alc.specs.Verdict.{Part, table, claims, steps, facts, State, state, begin, rows, after}
use Rattle.alc.specs.Reading.{InTurn, InRange, GoodTable, GoodClaims, GoodSteps, GoodModel}
use Rattle.alc.specs.Refusal.{AllPassed, said, Passes, none, line}
use Rattle.alc.specs.Slide.{Rule}
use Rattle.alc.specs.Derivation.{Works, done, on}
use Rattle.alc.proofs.ListFacts.{All-map, All-every}
use Rattle.alc.proofs.Slides.{fits_of}
use Rattle.alc.proofs.Places.{fits, at_place}

pub data Run : State → List Said → State → Type 0 where
  stop : {S : State} → Run S [] S
  read : {S E : State} {s : Said} {ss : List Said} → fits S.part s ≡ true → AllPassed (rows S s) → Run (after S s) ss E → Run S (s ∷ ss) E

pub passes_run : {S E : State} {is : List Item} → Passes S is E → Run S (map said_by is) E
unfolding rows
passes_run none = stop
passes_run (line {S} {E} {i} {is} p w) = go (fits S.part (said_by i)) refl (passes_run w)
  where
    at : said S i ≡ cond (fits S.part (said_by i)) (said_by i) unread
    at = at_place S.part i

    go : (b : Bool) → fits S.part (said_by i) ≡ b → Run (after S (said S i)) (map said_by is) E → Run S (said_by i ∷ map said_by is) E
    go true h v =
        let e : said S i ≡ said_by i = at ∙ rw h in
        read h (subst (λ t. AllPassed (rows S t)) e p) (subst (λ t. Run (after S t) (map said_by is) E) e v)
    go false h v =
        let e : said S i ≡ unread = at ∙ rw h in
        let q : AllPassed (rows S unread) = subst (λ t. AllPassed (rows S t)) e p in
        absurd (false≢true q.0)

pub run_passes : {S E : State} (is : List Item) → Run S (map said_by is) E → Passes S is E
run_passes [] stop = none
run_passes {S} {E} (i ∷ is) (read h p w) =
    let e : said_by i ≡ said S i = sym (at_place S.part i ∙ rw h) in
    line (subst (λ t. AllPassed (rows S t)) e p) (subst (λ t. Passes (after S t) is E) e (run_passes {S = after S (said_by i)} is w))

pub run-append : {S E F : State} {ss rs : List Said} → Run S ss E → Run E rs F → Run S (ss ++ rs) F
run-append stop v = v
run-append (read h p w) v = read h p (run-append w v)

-- a step at its goal passes its rows, and leaves its premises and the goals that waited
pub step_passed : (T : Table) (s : Step) (g : Goal) (gs ps : List Goal) (n : ℕ) → Rule T g s ps → All (λ p. length p ≤ 64) ps → length (ps ++ gs) ≤ 17
    → n < 1024 → InRange (length T) 0 (step_fields s) → AllPassed (step_rows T n (g ∷ gs) s)
unfolding step_rows
step_passed T s g gs ps n r k l h i =
    let f = fits_of T g r in
    let small = All-every (λ p. leb (length p) 64) (premises (plan T s) g) (All-map (λ p t. le-leb (length p) 64 t) (premises (plan T s) g) (rw f.1 at k)) in
    let few = le-leb (length (premises (plan T s) g ++ gs)) 17 (rw f.1 at l) in
    (lt-ltb n 1024 h, (refl, (i, (f.0.asks, (f.0.needs, (f.0.news, (small, (few, tt))))))))

pub step_leaves : (T : Table) (s : Step) (g : Goal) (gs ps : List Goal) → Rule T g s ps → ps ++ gs ≡ goals_after T s (g ∷ gs)
unfolding goals_after
step_leaves T s g gs ps r = ap (λ z. z ++ gs) (fits_of T g r).1

-- a fact has no concept number, so the table's length does not matter to its ranges
pub fact_range : (m k n : ℕ) (f : Fact) → InRange m n (fact_fields f) → InRange k n (fact_fields f)
fact_range m k n (places a d) r = r
fact_range m k n (has A d) r = r
fact_range m k n (edge s d e) r = r

module _ (T : Table) where
  table_run : (above rest : Table) → length above + length rest ≤ 256 → InTurn (λ us e. InRange (length us) 0 (entry_fields e)) above rest
      → InTurn (λ us e. stands us e ≡ false) above rest → Run (state table above [] 0 [] 0 []) (map concept rest) (state table (above ++ rest) [] 0 [] 0 [])
  unfolding rows after
  table_run above [] l r d = rw append-nil stop
  table_run above (e ∷ rest) l r d =
      let w = table_run (above ++ (e ∷ [])) rest (omega (arith, length-append above (e ∷ []))) r.1 d.1 in
      read {s = concept e} refl (lt-ltb (length above) 256 (omega arith), (r.0, (ap not d.0, tt))) (rw append_snoc at w)

  -- up to the claims; `table` is the part where there is none
  record Headed (p : Part) (old new : List Sided) : Type 0 where
    pub part : Part
    pub turns : fits part proof ≡ true
    pub run : Run (state p T old 0 [] 0 []) (map claim new) (state part T (old ++ new) 0 [] 0 [])

  claims_run : (p : Part) → fits p proof ≡ true → (old new : List Sided) → length old + length new ≤ 64
      → All (λ s. InRange (length T) 0 (claim_fields (Claims.claim s))) new → Headed p old new
  unfolding rows after
  claims_run p h old [] l r = record { part = p; turns = h; run = rw append-nil stop }
  claims_run p h old (c ∷ new) l r =
      let w = claims_run claims refl (old ++ (c ∷ [])) new (omega (arith, length-append old (c ∷ []))) r.1 in
      record { part = w.part; turns = w.turns; run = read {s = claim c} h (lt-ltb (length old) 64 (omega arith), (r.0, tt)) (rw append_snoc at w.run) }

  module _ (cs : List Sided) where
    steps_run : {ss : List Step} {gs hs : List Goal} → Works T ss gs hs → (n : ℕ) → n + length ss ≤ 1024 → All (λ s. InRange (length T) 0 (step_fields s)) ss
        → Run (state steps T cs n gs 0 []) (map step ss) (state steps T cs (n + length ss) hs 0 [])
    unfolding rows after
    steps_run done n l r = rw add-zero stop
    steps_run (on {s} {ss} {g} {gs} {ps} {hs} ru k f w) n l r =
        let q : suc n + length ss ≡ n + suc (length ss) = omega arith in
        let v = steps_run w (suc n) (omega arith) r.1 in
        read refl (step_passed T s g gs ps n ru k f (omega arith) r.0) (rw (q, step_leaves T s g gs ps ru) at v)

    facts_run : (n : ℕ) (old new : List Fact) → All (λ f. InRange 0 n (fact_fields f)) new → InTurn (λ us f. repeats us f ≡ false) old new
        → Run (state facts T cs 0 [] n old) (map fact new) (state facts T cs 0 [] n (old ++ new))
    unfolding rows after
    facts_run n old [] r d = rw append-nil stop
    facts_run n old (f ∷ new) r d = read {s = fact f} refl (fact_range 0 (length T) n f r.0, (ap not d.0, tt)) (rw append_snoc at (facts_run n (old ++ (f ∷ [])) new r.1 d.1))

    -- the whole of a dossier
    pub proof_run : {ss : List Step} {gs : List Goal} → GoodTable T → GoodClaims T cs → GoodSteps T ss → Works T ss (cs ∷ []) gs
        → Run begin (map concept T ++ (map claim cs ++ (proof ∷ map step ss))) (state steps T cs (length ss) gs 0 [])
    unfolding rows after
    proof_run {ss} {gs} t c s w =
        let h = claims_run table refl [] cs (omega (arith, c.few)) c.ranges in
        run-append (table_run [] T (omega (arith, t.few)) t.ranges t.differ)
        (run-append h.run (read h.turns tt (rw zero-add at (steps_run w 0 (omega (arith, s.few)) s.ranges))))

    pub model_run : (n : ℕ) (fs : List Fact) → GoodTable T → GoodClaims T cs → GoodModel n fs
        → Run begin (map concept T ++ (map claim cs ++ (model ∷ size n ∷ map fact fs))) (state facts T cs 0 [] n fs)
    unfolding rows after
    model_run n fs t c m =
        let h = claims_run table refl [] cs (omega (arith, c.few)) c.ranges in
        run-append (table_run [] T (omega (arith, t.few)) t.ranges t.differ)
        (run-append h.run (read h.turns tt (read refl (rw (le-leb 1 n m.least, le-leb n 32 m.most), tt) (facts_run n [] fs m.ranges m.differ))))
