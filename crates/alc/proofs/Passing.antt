-- Either the lines pass all their rows one after the other, or there is an earliest bad line and in it a first row that is not passed; the judge
-- goes through the lines, and through the rows of each, from the top, so its verdict is the end's or that row's.
-- Assumes nothing.
use Prim.Native.Nat.{ℕ, zero, suc, ◌+◌, ◌<◌}
use native.Mathlib.Omega.{arith}
use native.Mathlib.Nat.{add-zero}
use mathlib.Core.Bool.{Bool, true, false, cond, false≢true}
use mathlib.Core.List.{List, [], ◌∷◌, ◌++◌, map, append-nil}
use mathlib.Core.Path.{◌≡◌, refl, sym, ap, subst, ◌∙◌}
use lib.Dec.{ltb, eqb}
use lib.ListN.{length}
use borrow.Author.Tests.{ltb-true, eqb-true}
use Rattle.lines.specs.declared.Item.{Item}
use Rattle.alc.specs.Lists.{All, elem}
use Rattle.alc.specs.Rows.{Row, row, refusal}
use Rattle.alc.specs.Goals.{step_rows}
use Rattle.alc.specs.Dossier.{Said, concept, claim, proof, model, step, size, fact, unread}
use Rattle.alc.specs.Verdict.{Verdict, refused, State, rows, after, ending, judge}
use Rattle.alc.specs.Refusal.{AllPassed, First, here, later, said, Passes, none, line, BadLine, order, within}
use Rattle.alc.proofs.ListFacts.{All-map, every-All}

-- THE ROWS OF A LINE
-- a line's rows stand in the order of the table
pub in_order : (S : State) (s : Said) → within (map (λ r. r.number) (rows S s)) order ≡ true
unfolding rows step_rows
in_order S (concept e) = refl
in_order S (claim s) = refl
in_order S proof = refl
in_order S model = refl
in_order S (step s) = refl
in_order S (size n) = refl
in_order S (fact f) = refl
in_order S unread = refl

-- so what holds of the table's numbers holds of the line's, and of the first row's that is not passed
within-All : (P : ℕ → Type 0) (l m : List ℕ) → within l m ≡ true → All P m → All P l
within-All P [] m e h = tt
within-All P (a ∷ l) [] e h = absurd (false≢true e)
within-All P (a ∷ l) (b ∷ m) e h = go (eqb a b) refl (λ u. within-All P l m u h.1) (λ u. within-All P (a ∷ l) m u h.1) e
  where
    go : (t : Bool) → eqb a b ≡ t → (within l m ≡ true → All P l) → (within (a ∷ l) m ≡ true → All P (a ∷ l)) → cond t (within l m) (within (a ∷ l) m) ≡ true → All P (a ∷ l)
    go true q f g u = (subst P (sym (eqb-true a b q)) h.0, f u)
    go false q f g u = g u

first-All : (P : ℕ → Type 0) {k : ℕ} {rs : List Row} → First k rs → All P (map (λ r. r.number) rs) → P k
first-All P here h = h.0
first-All P (later f) h = first-All P f h.1

pub line_All : (P : ℕ → Type 0) → All P order → (S : State) (s : Said) (k : ℕ) → First k (rows S s) → P k
line_All P h S s k f = first-All P f (within-All P (map (λ r. r.number) (rows S s)) order (in_order S s) h)

pub line_number : (S : State) (s : Said) (k : ℕ) → First k (rows S s) → elem k order ≡ true
line_number = line_All (λ n. elem n order ≡ true) (every-All (λ n. elem n order) order refl)

-- no row has number 0
numbered : (S : State) (s : Said) → All (λ n. 0 < n) (map (λ r. r.number) (rows S s))
numbered S s = within-All (λ n. 0 < n) (map (λ r. r.number) (rows S s)) order (in_order S s) (All-map (λ n t. ltb-true 0 n t) order (every-All (λ n. ltb 0 n) order refl))

pub line_positive : (S : State) (s : Said) (k : ℕ) → First k (rows S s) → 0 < k
line_positive S s k f = first-All (λ n. 0 < n) f (numbered S s)

pub first_refusal : {k : ℕ} {rs : List Row} → First k rs → refusal rs ≡ k
first_refusal here = refl
first_refusal (later f) = first_refusal f

pub passed_refusal : (rs : List Row) → AllPassed rs → refusal rs ≡ 0
passed_refusal [] h = refl
passed_refusal (r ∷ rs) h = rw h.0 (passed_refusal rs h.1)

-- the rows are all passed, or one is the first that is not
data Graded (rs : List Row) : Type 0 where
  all : AllPassed rs → Graded rs
  bad : (k : ℕ) → First (suc k) rs → Graded rs

grade : (n : ℕ) (b : Bool) (rs : List Row) → 0 < n → Graded rs → Graded (row n b ∷ rs)
grade n true rs h (all p) = all (refl, p)
grade n true rs h (bad k f) = bad k (later f)
grade zero false rs h g = absurd (omega arith)
grade (suc n) false rs h g = bad n here

graded : (rs : List Row) → All (λ n. 0 < n) (map (λ r. r.number) rs) → Graded rs
graded [] h = all tt
graded (r ∷ rs) h = grade r.number r.passed rs h.0 (graded rs h.1)

-- THE LINES
-- what the judge does with the first line's rows
abbrev next : ℕ → State → Item → List Item → ℕ → Verdict
next n S i is x = elim x [ zero ↦ judge (suc n) (after S (said S i)) is | suc k ↦ refused (suc k) (suc n) ]

pub judge_passes : {S E : State} {is : List Item} → Passes S is E → (n : ℕ) (js : List Item) → judge n S (is ++ js) ≡ judge (n + length is) E js
unfolding judge
judge_passes none n js = rw add-zero
judge_passes (line {S} {E} {i} {is} p w) n js =
    ap (next n S i (is ++ js)) (passed_refusal (rows S (said S i)) p) ∙ judge_passes w (suc n) js ∙ ap (λ k. judge k E js) (omega arith)

pub judge_first : (n k : ℕ) (S : State) (i : Item) (is : List Item) → First (suc k) (rows S (said S i)) → judge n S (i ∷ is) ≡ refused (suc k) (suc n)
unfolding judge
judge_first n k S i is f = ap (next n S i is) (first_refusal f)

-- all lines pass: the end decides
pub passes_ending : {S E : State} {is : List Item} → Passes S is E → (n : ℕ) → judge n S is ≡ ending (n + length is) E
unfolding judge
passes_ending {S} {E} {is} w n = ap (judge n S) (sym (append-nil is)) ∙ judge_passes w n []

-- the earliest bad line decides
pub bad_refused : (S : State) (is : List Item) (k m n : ℕ) → BadLine S is (suc k) m → judge n S is ≡ refused (suc k) (suc (n + m))
bad_refused S is k m n b =
    ap (judge n S) b.lines ∙ judge_passes b.passes n (b.bad ∷ b.behind) ∙ judge_first (n + length b.before) k b.read b.bad b.behind b.first
    ∙ ap (λ j. refused (suc k) (suc (n + j))) (sym b.count)

-- one or the other
pub data Judged (S : State) (is : List Item) : Type 0 where
  through : (E : State) → Passes S is E → Judged S is
  stopped : (k m : ℕ) → BadLine S is (suc k) m → Judged S is

pub judged : (S : State) (is : List Item) → Judged S is
judged S [] = through S none
judged S (i ∷ is) = go (graded (rows S (said S i)) (numbered S (said S i))) (judged (after S (said S i)) is)
  where
    go : Graded (rows S (said S i)) → Judged (after S (said S i)) is → Judged S (i ∷ is)
    go (all p) (through E w) = through E (line p w)
    go (all p) (stopped k m b) =
        stopped k (suc m) (record {
          before = i ∷ b.before;
          bad = b.bad;
          behind = b.behind;
          read = b.read;
          lines = ap (λ z. i ∷ z) b.lines;
          passes = line p b.passes;
          first = b.first;
          count = ap suc b.count;
        })
    go (bad k f) j = stopped k 0 (record { before = []; bad = i; behind = is; read = S; lines = refl; passes = none; first = f; count = refl })
