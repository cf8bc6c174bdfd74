-- What is found among the records of claims is what the rows of a step say of the claims: a record is equal to another exactly if its claim is, so
-- each test on records is the test on claims, and so are the premises. Assumes nothing.
use Prim.Native.Nat.{ℕ, zero, suc, ◌+◌, ◌≤◌, ◌<◌}
use native.Mathlib.Omega.{arith}
use native.Mathlib.Decide.{ℕ_discrete}
use native.Mathlib.Nat.{not-suc-le-zero, le_of_suc-le-suc}
use mathlib.Core.Bool.{Bool, true, false, not, cond, ◌&&◌, ◌||◌, decide_iff, or-false}
use mathlib.Core.List.{List, [], ◌∷◌, ◌++◌, map}
use mathlib.Core.Path.{◌≡◌, refl, sym, ap, ap₂, ◌∙◌}
use lib.Dec.{eqb, ltb, leb}
use lib.ListN.{length, get_or, length-map, length-append}
use borrow.Author.Tests.{eqb-true, eq-eqb}
use Rattle.std.proofs.lemmas.Grind.{common_steps}
use Rattle.std.proofs.Common.{Result, Ok}
use Rattle.std.specs.List.{list_any}
use Rattle.alc.specs.Lists.{every, elem}
use Rattle.alc.specs.Rows.{Row, row, refusal}
use Rattle.alc.specs.Ranges.{in_range}
use Rattle.alc.specs.Table.{Table}
use Rattle.alc.specs.Claims.{is, sub, link, Claim-discrete, Sided, left, right, Sided-discrete, Goal, names, claim, same, has, without}
use Rattle.alc.specs.Rules.{Step, step_fields, Plan, plan}
use Rattle.alc.specs.Goals.{avoids, are_new, rest, premises, step_rows}
use Rattle.alc.specs.Shown.{record_of, row_number}
use Rattle.alc.proofs.ShownLaws.{record_once}
use Rattle.alc.proofs.Logic.{bool_by, not_or}
use Rattle.alc.specs.declared.Claim.{Claim as Record}
use Rattle.goals.specs.declared.Turn.{Turn}
use Rattle.alc.specs.declared.refusal.Refusal.{Refusal}
use Rattle.goals.specs.Records.{same_record, has_name, lacking, keeping, added, Ruling, ruling, kept_by, record_rows, premise_at, Turns}
use Rattle.goals.proofs.RecordLaws.{same_eq, eq_same, few_open}

same_record_lem : (s t : Sided) → same_record (record_of s) (record_of t) ≡ same s t
same_record_lem s t =
    bool_by (same_record (record_of s) (record_of t)) (same s t)
    (λ h. (decide_iff (Sided-discrete (Claim-discrete ℕ_discrete) s t)).1 (record_once s t (same_eq (record_of s) (record_of t) h)))
    (λ h. eq_same (record_of s) (record_of t) (ap record_of ((decide_iff (Sided-discrete (Claim-discrete ℕ_discrete) s t)).0 h)))

has_record : (cs : List Sided) (s : Sided) → list_any (same_record (record_of s)) (map record_of cs) ≡ has cs s
has_record [] s = refl
has_record (t ∷ cs) s = ap₂ ◌||◌ (same_record_lem s t) (has_record cs s)

-- the claims needed
needs_record : (cs ns : List Sided) → every (λ c. list_any (same_record c) (map record_of cs)) (map record_of ns) ≡ every (has cs) ns
needs_record cs [] = refl
needs_record cs (s ∷ ns) = ap₂ ◌&&◌ (has_record cs s) (needs_record cs ns)

-- the first copy dropped
lacking_record : (s : Sided) (cs : List Sided) → lacking (record_of s) (map record_of cs) ≡ map record_of (without s cs)
unfolding lacking
lacking_record s [] = refl
lacking_record s (t ∷ cs) = rw (same_record_lem s t, lacking_record s cs) (pick (same s t))
  where
    pick : (b : Bool) → cond b (map record_of cs) (record_of t ∷ map record_of (without s cs)) ≡ map record_of (cond b cs (t ∷ without s cs))
    pick true = refl
    pick false = refl

keeping_record : (b : Bool) (ns cs : List Sided) → keeping b (map record_of ns) (map record_of cs) ≡ map record_of (rest b ns cs)
keeping_record false ns cs = refl
keeping_record true [] cs = refl
keeping_record true (s ∷ ns) cs = lacking_record s cs

-- which of two numbers comes first in a comparison doesn't matter
pub eqb_turn : (a b : ℕ) → eqb a b ≡ eqb b a
eqb_turn a b = bool_by (eqb a b) (eqb b a) (λ h. eq-eqb b a (sym (eqb-true a b h))) (λ h. eq-eqb a b (sym (eqb-true b a h)))

-- names
name_claim : (a : ℕ) (s : Sided) → not (has_name a (record_of s)) ≡ avoids (a ∷ []) s
unfolding has_name
name_claim a (left (is x i)) = grind (arith, common_steps)
name_claim a (left (sub i j)) = refl
name_claim a (left (link r x y)) = grind (arith, common_steps)
name_claim a (right (is x i)) = grind (arith, common_steps)
name_claim a (right (sub i j)) = refl
name_claim a (right (link r x y)) = grind (arith, common_steps)

any_names : (a : ℕ) (cs : List Sided) → not (list_any (has_name a) (map record_of cs)) ≡ every (avoids (a ∷ [])) cs
any_names a [] = refl
any_names a (s ∷ cs) = not_or (has_name a (record_of s)) (list_any (has_name a) (map record_of cs)) ∙ ap₂ ◌&&◌ (name_claim a s) (any_names a cs)

-- a test that is two tests
module _ {A : Type 0} (f g h : A → Bool) (e : (x : A) → h x ≡ (f x && g x)) where
  every_both : (l : List A) → every h l ≡ (every f l && every g l)
  every_both [] = refl
  every_both (x ∷ l) = rw (e x, every_both l) (grind (arith, common_steps))

every_true : {A : Type 0} (f : A → Bool) → ((x : A) → f x ≡ true) → (l : List A) → every f l ≡ true
every_true f e [] = refl
every_true f e (x ∷ l) = rw (e x, every_true f e l)

news_record : (ns : List ℕ) (cs : List Sided) → every (λ a. not (list_any (has_name a) (map record_of cs))) ns ≡ every (avoids ns) cs
news_record [] cs = sym (every_true (avoids []) (λ s. every_true (λ a. not (elem a [])) (λ a. refl) (names (claim s))) cs)
news_record (a ∷ ns) cs =
    ap₂ ◌&&◌ (any_names a cs) (news_record ns cs)
    ∙ sym (every_both (avoids (a ∷ [])) (avoids ns) (avoids (a ∷ ns)) (λ s. every_both (λ b. not (elem b (a ∷ []))) (λ b. not (elem b ns)) (λ b. not (elem b (a ∷ ns))) (λ b. rw (or-false (eqb b a)) (not_or (eqb b a) (elem b ns))) (names (claim s))) cs)

-- the premises
pub map-append : (l m : List Sided) → map record_of (l ++ m) ≡ map record_of l ++ map record_of m
map-append [] m = refl
map-append (s ∷ l) m = ap (λ r. record_of s ∷ r) (map-append l m)

module _ (kept : List Sided) where
  small_record : (ls : List (List Sided))
      → every (λ l. leb (length (map record_of kept ++ l)) 64) (map (map record_of) ls) ≡ every (λ h. leb (length h) 64) (map (λ l. kept ++ l) ls)
  small_record [] = refl
  small_record (l ∷ ls) =
      ap₂ ◌&&◌ (ap (λ n. leb n 64) (ap length (sym (map-append kept l)) ∙ length-map (kept ++ l) record_of)) (small_record ls)

  premise_record : (ls : List (List Sided)) (i : ℕ) → i < length ls
      → map record_of kept ++ get_or (map (map record_of) ls) i [] ≡ map record_of (get_or (map (λ l. kept ++ l) ls) i [])
  premise_record [] i h = absurd (not-suc-le-zero h)
  premise_record (l ∷ ls) zero h = sym (map-append kept l)
  premise_record (l ∷ ls) (suc i) h = premise_record ls i (le_of_suc-le-suc h)

-- the rows of a step that speak of its rule, at the goal g with w goals waiting
unfoldable pub rule_rows : Plan → Goal → ℕ → List Row
rule_rows p g w =
    row 6 p.asks
    ∷ row 7 (every (has g) p.needs)
    ∷ row 8 (are_new p.news g)
    ∷ row 10 (every (λ h. leb (length h) 64) (premises p g))
    ∷ row 11 (leb (length (premises p g) + w) 17)
    ∷ []

-- the premises that a turn leaves of the records l: none, one, or two, of which the first is worked on and the second waits under it
pub data Leaves (l : List Record) (t : Turn) : List Goal → Type 0 where
  none : length (added t.leaves) ≡ 0 → Leaves l t []
  one : (h : Goal) → length (added t.leaves) ≡ 1 → premise_at 0 t l ≡ map record_of h → Leaves l t (h ∷ [])
  two : (h k : Goal) → length (added t.leaves) ≡ 2 → premise_at 0 t l ≡ map record_of h → premise_at 1 t l ≡ map record_of k → Leaves l t (h ∷ k ∷ [])

-- the rows of a step with a goal open: its count and its ranges, then those of its rule
pub step_rows_lem : (T : Table) (n : ℕ) (g : Goal) (gs : List Goal) (s : Step)
    → refusal (step_rows T n (g ∷ gs) s)
    ≡ cond (ltb n 1024) (cond (every (in_range (length T) 0) (step_fields s)) (refusal (rule_rows (plan T s) g (length gs))) 3) 5
unfolding step_rows rule_rows
step_rows_lem T n g gs s = rw (length-append (premises (plan T s) g) gs)

-- where no row fails no premise is too long, and at most 17 goals are open
module _ (u : Ruling) (l : List Record) (w : ℕ) (e : refusal (record_rows u l w) ≡ 0) where
  pub all_small : every (λ r. leb (length (kept_by u l ++ r)) 64) u.comes ≡ true
  unfolding record_rows
  all_small = grind (arith, common_steps)

  pub all_open : length u.comes + w ≤ 17
  unfolding record_rows
  all_open = grind (arith, common_steps)

-- the premises of a turn, by their count
leaves_of : (l : List Record) (t : Turn) (ps : List Goal) → length (added t.leaves) ≡ length ps → length ps ≤ 2
    → ((i : ℕ) → i < length ps → premise_at i t l ≡ map record_of (get_or ps i [])) → Leaves l t ps
leaves_of l t [] e few f = none e
leaves_of l t (h ∷ []) e few f = one h e (f 0 (omega arith))
leaves_of l t (h ∷ k ∷ []) e few f = two h k e (f 0 (omega arith)) (f 1 (omega arith))
leaves_of l t (h ∷ k ∷ m ∷ ps) e few f = absurd (omega arith)

-- where the records are those of claims, what a step does at them is what it does at the claims
module _ (q : Plan) (cs : List Sided) where
  abbrev kept : List Sided
  kept = rest q.drops q.needs cs

  opens_shown : length (ruling q).comes ≡ length (premises q cs)
  opens_shown = length-map q.premises (map record_of) ∙ sym (length-map q.premises (λ l. kept ++ l))

  rows_shown : (w : ℕ) → record_rows (ruling q) (map record_of cs) w ≡ rule_rows q cs w
  unfolding record_rows rule_rows
  rows_shown w =
      rw (needs_record cs q.needs, news_record q.news cs, keeping_record q.drops q.needs cs, small_record kept q.premises, opens_shown)

  module _ (b : List Row) (l : List Record) (sl : l ≡ map record_of cs) (w : ℕ) where
    pub number_shown : (r : Result Turn Refusal) → Turns b (ruling q) l w r → row_number r ≡ refusal (b ++ rule_rows q cs w)
    number_shown r s = s.number ∙ ap (λ m. refusal (b ++ record_rows (ruling q) m w)) sl ∙ ap (λ rs. refusal (b ++ rs)) (rows_shown w)

    -- where it passes
    module _ (t : Turn) (s : Turns b (ruling q) l w (Ok t)) where
      count : length (added t.leaves) ≡ length (premises q cs)
      count = ap length s.leaves.1 ∙ opens_shown

      premise_shown : (i : ℕ) → i < length (premises q cs) → premise_at i t l ≡ map record_of (get_or (premises q cs) i [])
      premise_shown i h =
          ap₂ (λ k m. k ++ get_or m i []) (s.leaves.0 ∙ ap (kept_by (ruling q)) sl ∙ keeping_record q.drops q.needs cs) s.leaves.1
          ∙ premise_record kept q.premises i (rw (length-map q.premises (λ l. kept ++ l)) at h)

      pub leaves_shown : Leaves l t (premises q cs)
      leaves_shown = leaves_of l t (premises q cs) count (omega (arith, count, few_open t.leaves)) premise_shown
