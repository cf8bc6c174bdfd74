-- A step whose name is not new is refused with 8 at its line: the lines before it are read through, and of its rows the eighth is the first that is
-- not passed. And the spring's sentence has no proof, since a world of three refutes it.
-- Assumes nothing.
use Prim.Native.Nat.{ℕ, suc, ◌+◌, ◌≤◌, ◌<◌}
use native.Mathlib.Omega.{arith}
use native.Mathlib.Decide.{ℕ_discrete}
use mathlib.Core.Bool.{Bool, true, false, cond, decide}
use mathlib.Core.List.{List, [], ◌∷◌, ◌++◌, map, head-eq_of_cons-eq, tail-eq_of_cons-eq}
use mathlib.Core.Path.{◌≡◌, refl, sym, ap, ap₂, subst, ◌∙◌}
use lib.Dec.{ltb}
use lib.ListN.{length, length-append, length-map}
use borrow.Author.Tests.{lt-ltb, leb-true}
use Rattle.lines.specs.Text.{
  cut,
  good_byte,
  digit,
  value_from,
  leads,
  is_number,
  words,
  row_of,
  row_index,
  side_of,
  behind_of,
  item_of,
  fit,
  lines_of,
}
use Rattle.alc.specs.Lists.{every}
use Rattle.alc.specs.Rows.{Row, row}
use Rattle.alc.specs.Meaning.{member}
use Rattle.alc.specs.Table.{Table, Kind, entry_of, tree_to, tree_of}
use Rattle.alc.specs.Claims.{is, sub, link, Sided, left, right, Goal, has, truth}
use Rattle.alc.specs.Rules
use Rattle.alc.specs.Rules.{Step, step_fields, plan}
use Rattle.alc.specs.Goals.{are_new, step_rows}
use Rattle.alc.specs.Model as Model
use Rattle.alc.specs.Model.{Fact}
use Rattle.alc.specs.Dossier.{concept, claim, proof, step, unread, said_by}
use Rattle.alc.specs.Verdict.{proved, refuted, refused, state, steps, begin, rows, after, ending, judge, verdict}
use Rattle.alc.specs.Known.{text}
use Rattle.alc.specs.Reading.{InRange, ReadsProof, ReadsModel, ReadsUpTo, line_of}
use Rattle.alc.specs.Refusal.{AllPassed, First, here, later, said, BadLine, at_line}
use Rattle.alc.specs.Slide.{◌∋◌, ◌∉◌, Is}
use Rattle.lines.proofs.Laws.{is_false}
use Rattle.alc.proofs.Slides.{unnamed}
use Rattle.alc.proofs.Places.{fits, at_place}
use Rattle.alc.proofs.Runs.{run_passes, proof_run, Run}
use Rattle.alc.proofs.Verdicts.{refused_iff}
use Rattle.alc.proofs.Meant.{never_both}

-- the rows before it are passed, and it is not
first_at_lem : (before : List Row) (k : ℕ) (b : Bool) (behind : List Row) → AllPassed before → b ≡ false → First k (before ++ (row k b ∷ behind))
first_at_lem [] k b behind h e = subst (λ z. First k (row k z ∷ behind)) (sym e) here
first_at_lem (r ∷ before) k b behind h e = subst (λ z. First k (row r.number z ∷ (before ++ (row k b ∷ behind)))) (sym h.0) (later (first_at_lem before k b behind h.1 e))

-- a list that a function takes to this one is cut where this one is
record Cut {A B : Type 0} (f : A → B) (l : List A) (xs : List B) (y : B) : Type 0 where
  pub before : List A
  pub it : A
  pub behind : List A
  pub parts : l ≡ before ++ (it ∷ behind)
  pub front : map f before ≡ xs
  pub here : f it ≡ y

cut-map : {A B : Type 0} (f : A → B) (l : List A) (xs : List B) (y : B) (ys : List B) → map f l ≡ xs ++ (y ∷ ys) → Cut f l xs y
cut-map f [] [] y ys e = let z : ◌≡◌ {A = ℕ} 0 1 = cc in absurd (omega arith)
cut-map f [] (x ∷ xs) y ys e = let z : ◌≡◌ {A = ℕ} 0 1 = cc in absurd (omega arith)
cut-map f (a ∷ l) [] y ys e = record { before = []; it = a; behind = l; parts = refl; front = refl; here = head-eq_of_cons-eq e }
cut-map f (a ∷ l) (x ∷ xs) y ys e =
    let c = cut-map f l xs y ys (tail-eq_of_cons-eq e) in
    record {
      before = a ∷ c.before;
      it = c.it;
      behind = c.behind;
      parts = ap (λ z. a ∷ z) c.parts;
      front = ap₂ ◌∷◌ (head-eq_of_cons-eq e) c.front;
      here = c.here;
    }

-- a step is refused by the first of its rows that it does not pass
step_refused : (room : ℕ) (text : List ℕ) (T : Table) (cs : List Sided) (ss : List Step) (gs : List Goal) (s : Step) (k : ℕ) → 1088 ≤ room
    → ReadsUpTo text T cs ss gs s → First k (step_rows T (length ss) gs s) → verdict room text ≡ refused k (line_of T cs ss)
unfolding rows
step_refused room text T cs ss gs s k h r f =
    let E = state steps T cs (length ss) gs 0 [] in
    let so_far = map concept T ++ (map claim cs ++ (proof ∷ map step ss)) in
    let c = cut-map said_by (lines_of text) so_far (step s) r.behind r.lines in
    let run : Run begin so_far E = proof_run T cs r.table r.claims r.steps r.works in
    let here : said E c.it ≡ step s = at_place steps c.it ∙ ap (λ t. cond (fits steps t) t unread) c.here in
    let many : length so_far ≡ length T + (length cs + suc (length ss))
    = length-append (map concept T) (map claim cs ++ (proof ∷ map step ss)) ∙ ap₂ ◌+◌ (length-map T concept)
    (length-append (map claim cs) (proof ∷ map step ss) ∙ ap₂ ◌+◌ (length-map cs claim) (ap suc (length-map ss step))) in
    let bad : BadLine begin (lines_of text) k (length T + (length cs + suc (length ss)))
    = record {
      before = c.before;
      bad = c.it;
      behind = c.behind;
      read = E;
      lines = c.parts;
      passes = run_passes c.before (subst (λ z. Run begin z E) (sym c.front) run);
      first = subst (λ t. First k (rows E t)) (sym here) f;
      count = sym many ∙ sym (ap length c.front) ∙ length-map c.before said_by;
    } in
    (refused_iff room text k (line_of T cs ss)).1 (at_line h r.short bad)

-- whichever the rule: where all before newness is in order and the names are not new, 8 is the first row that is not passed
not_new : (T : Table) (n : ℕ) (g : Goal) (gs : List Goal) (s : Step) → n < 1024 → InRange (length T) 0 (step_fields s) → (plan T s).asks ≡ true
    → every (has g) (plan T s).needs ≡ true → are_new (plan T s).news g ≡ false → First 8 (step_rows T n (g ∷ gs) s)
unfolding step_rows
not_new T n g gs s l r a h e =
    first_at_lem (row 5 (ltb n 1024) ∷ row 9 true ∷ row 3 _ ∷ row 6 (plan T s).asks ∷ row 7 (every (has g) (plan T s).needs) ∷ []) 8 (are_new (plan T s).news g) _
    (lt-ltb n 1024 l, (refl, (r, (a, (h, tt))))) e

-- so the step is refused with 8 at its line
pub not_new_refused : (room : ℕ) (text : List ℕ) (T : Table) (cs : List Sided) (ss : List Step) (g : Goal) (gs : List Goal) (s : Step) → 1088 ≤ room
    → ReadsUpTo text T cs ss (g ∷ gs) s → length ss < 1024 → InRange (length T) 0 (step_fields s) → (plan T s).asks ≡ true → every (has g) (plan T s).needs ≡ true
    → are_new (plan T s).news g ≡ false → verdict room text ≡ refused 8 (line_of T cs ss)
not_new_refused room text T cs ss g gs s h r l q a n e = step_refused room text T cs ss (g ∷ gs) s 8 h r (not_new T (length ss) g gs s l q a n e)

-- a `some-l` whose name stands in the goal already
pub some_l_refused : (room : ℕ) (text : List ℕ) (T : Table) (cs : List Sided) (ss : List Step) (g : Goal) (gs : List Goal) (a i b : ℕ) → 1088 ≤ room
    → ReadsUpTo text T cs ss (g ∷ gs) (Rules.some_l a i b) → length ss < 1024 → InRange (length T) 0 (step_fields (Rules.some_l a i b)) → Is T i Kind.some
    → g ∋ left (is a i) → (b ∉ g → ⊥) → verdict room text ≡ refused 8 (line_of T cs ss)
unfolding plan
some_l_refused room text T cs ss g gs a i b h r l q k n o =
    not_new_refused room text T cs ss g gs (Rules.some_l a i b) h r l q k (rw n) (is_false (are_new (b ∷ []) g) (λ e. o (unnamed b g e)))

-- THE SPRING'S SENTENCE: the table and claims of examples/gift-spring
abbrev gift_table : Table
gift_table = entry_of Kind.atom 0 0 ∷ entry_of Kind.atom 1 0 ∷ entry_of Kind.some 0 0 ∷ entry_of Kind.some 0 1 ∷ []

abbrev gift_claims : List Sided
gift_claims = left (sub 0 1) ∷ left (link 0 0 1) ∷ left (is 0 2) ∷ right (is 1 1) ∷ []

-- the text of examples/gift-world
world : List ℕ
world =
    text
    ("atom 0" ∷ "atom 1" ∷ "some 0 0" ∷ "some 0 1" ∷ "left sub 0 1" ∷ "left link 0 0 1" ∷ "left is 0 2" ∷ "right is 1 1" ∷ "model" ∷ "size 3" ∷ "name 0 0" ∷ "name 1 1"
    ∷ "has 0 2" ∷ "has 1 2" ∷ "edge 0 0 1" ∷ "edge 0 0 2" ∷ [])

abbrev world_facts : List Fact
world_facts = Model.places 0 0 ∷ Model.places 1 1 ∷ Model.has 0 2 ∷ Model.has 1 2 ∷ Model.edge 0 0 1 ∷ Model.edge 0 0 2 ∷ []

world_reads : ReadsModel world gift_table gift_claims 3 world_facts
unfolding world decide ℕ_discrete cut good_byte digit value_from leads is_number words row_of row_index side_of behind_of item_of lines_of said_by
world_reads =
    record {
      short = leb-true _ 65535 refl;
      lines = refl;
      table = record { few = leb-true _ 256 refl; ranges = (refl, (refl, (refl, (refl, tt)))); differ = (refl, (refl, (refl, (refl, tt)))) };
      claims = record { few = leb-true _ 64 refl; ranges = (refl, (refl, (refl, (refl, tt)))) };
      facts =
          record {
            least = leb-true 1 3 refl;
            most = leb-true 3 32 refl;
            ranges = (refl, (refl, (refl, (refl, (refl, (refl, tt))))));
            differ = (refl, (refl, (refl, (refl, (refl, (refl, tt))))));
          };
    }

world_refuted : verdict 1088 world ≡ refuted 16
unfolding world decide ℕ_discrete cut good_byte digit value_from leads is_number words row_of row_index side_of behind_of item_of fit lines_of member tree_to tree_of truth said_by rows after ending judge verdict
world_refuted = refl

pub gift_unproved : (room n : ℕ) (text : List ℕ) (ss : List Step) → ReadsProof text gift_table gift_claims ss → verdict room text ≡ proved n → ⊥
gift_unproved room n text ss r e = never_both room 1088 n 16 text world r world_reads e world_refuted
