-- The code's table shows the concept table: a line more is stored is a line more is shown, and two lines of the code are equal exactly if those that they
-- show are.
-- Assumes nothing.
use Rattle.std.proofs.Common.{ℕ, zero, suc, ◌+◌, ◌≤◌, ◌<◌, ◌≡◌, true, ◌&&◌, ◌||◌, List, [], ◌∷◌, ◌++◌, map, take, drop, replicate, length, set, eqb, arith, refl, sym, ap, subst, ◌∙◌, ◌-◌}
use native.Mathlib.Decide.{ℕ_discrete}
use Rattle.std.proofs.Common.{length-append, get_or, ltb, false}
use mathlib.Core.Bool.{or-true, or-false}
use borrow.Author.Tests.{lt-ltb}
use Rattle.alc.proofs.ListFacts.{any_more}
use Rattle.std.proofs.lemmas.List.{nil_from_length, length-map, length-take-le, map-append, take_more, take_more_set, take_all, get_or-take, get_or_append_left, drop-replicate, drop-set-lt, drop-drop}
use Rattle.std.proofs.Math.Seq.{get_or-append_seam}
use Rattle.std.proofs.Math.ListN.{get_or-map}
use Rattle.std.specs.List.{list_any}
use Rattle.alc.specs.Lists.{any, every}
use Rattle.alc.specs.Ranges.{in_range}
use Rattle.alc.specs.Table.{Entry, Table, entry, entry_of, entry_fields, same_entry}
use Rattle.alc.specs.Table as Definition
use Rattle.alc.specs.Entries.{kind_of, shown, past, columns, columns_length, count_back, Layered}
use Rattle.alc.specs.declared.table.Entry.{Entry as Stored}
use Rattle.alc.specs.declared.table.Kind.{Kind}
use Rattle.alc.specs.declared.table.Kind.TheVariants.{Top, Bot, Atom, Not, And, Or, Some, All}
use Rattle.alc.specs.contracts.table.Kind.{the_type}
use denote.Enum.Bare.{sameb}
use mathlib.Core.Path.{ap₂}
use Rattle.std.proofs.Math.Bool.{decide}

-- so many lines are shown
pub shown_length : (es : List Stored) (n : ℕ) → n ≤ length es → length (map shown (take n es)) ≡ n
shown_length es n h = length-map (take n es) shown ∙ length-take-le n es h

-- a line more is stored
pub shown_more : (es : List Stored) (n : ℕ) (e : Stored) → n < length es → map shown (take (n + 1) (set es n e)) ≡ map shown (take n es) ++ (shown e ∷ [])
shown_more es n e h = ap (map shown) (take_more_set es n e h) ∙ map-append shown (take n es) (e ∷ [])

-- behind a line more the rest of a column is shorter by one
pub rest_more : {X : Type 0} (z : X) (xs : List X) (n : ℕ) (x : X) → n < 256 → drop n xs ≡ replicate (256 - n) z → drop (n + 1) (set xs n x) ≡ replicate (256 - (n + 1)) z
rest_more z xs n x h d =
    let k : 256 - n - 1 ≡ 256 - (n + 1) = omega (arith, h) in
    drop-set-lt (n + 1) xs n x (omega arith) ∙ sym (drop-drop 1 n xs) ∙ ap (drop 1) d ∙ drop-replicate 1 (256 - n) z ∙ ap (λ m. replicate m z) k

-- the entries of three columns with a line at n are those with its entry there
pub columns_set : (ks : List Kind) (xs ys : List ℕ) (n : ℕ) (k : Kind) (x y : ℕ) → columns (set ks n k) (set xs n x) (set ys n y) ≡ set (columns ks xs ys) n (record { kind = k; x = x; y = y })
unfolding columns
columns_set [] xs ys n k x y = refl
columns_set (l ∷ ks) [] ys zero k x y = refl
columns_set (l ∷ ks) [] ys (suc n) k x y = refl
columns_set (l ∷ ks) (v ∷ xs) [] zero k x y = refl
columns_set (l ∷ ks) (v ∷ xs) [] (suc n) k x y = refl
columns_set (l ∷ ks) (v ∷ xs) (w ∷ ys) zero k x y = refl
columns_set (l ∷ ks) (v ∷ xs) (w ∷ ys) (suc n) k x y = ap (λ es. record { kind = l; x = v; y = w } ∷ es) (columns_set ks xs ys n k x y)

-- an entry of the columns is made of theirs
pub columns_at : (ks : List Kind) (xs ys : List ℕ) (i : ℕ) → length xs ≡ length ks → length ys ≡ length ks
    → get_or (columns ks xs ys) i past ≡ record { kind = get_or ks i Top; x = get_or xs i 0; y = get_or ys i 0 }
unfolding columns
columns_at [] xs ys i p q = rw (nil_from_length xs p, nil_from_length ys q) refl
columns_at (k ∷ ks) [] ys i p q = absurd (omega (arith, p))
columns_at (k ∷ ks) (x ∷ xs) [] i p q = absurd (omega (arith, q))
columns_at (k ∷ ks) (x ∷ xs) (y ∷ ys) zero p q = refl
columns_at (k ∷ ks) (x ∷ xs) (y ∷ ys) (suc i) p q = columns_at ks xs ys i (omega (arith, p)) (omega (arith, q))

-- a line of those shown is that of the columns
pub line_shown : (ks : List Kind) (xs ys : List ℕ) (n i : ℕ) → length xs ≡ length ks → length ys ≡ length ks → i < n
    → shown (record { kind = get_or ks i Top; x = get_or xs i 0; y = get_or ys i 0 }) ≡ entry (map shown (take n (columns ks xs ys))) i
line_shown ks xs ys n i p q b =
    sym (get_or-map shown (take n (columns ks xs ys)) i past ∙ ap shown (get_or-take n (columns ks xs ys) i past b ∙ columns_at ks xs ys i p q))

-- a table has as many lines as are shown of its columns
pub count_is : (ks : List Kind) (xs ys : List ℕ) (n : ℕ) (T : Table) → n ≤ 256 → length ks ≡ 256 → length xs ≡ 256 → length ys ≡ 256
    → map shown (take n (columns ks xs ys)) ≡ T → length T ≡ n
count_is ks xs ys n T h p q r e = ap length (sym e) ∙ count_back ks xs ys n h p q r

-- the empty table is layered
pub layered_none : Layered []
unfolding Layered
layered_none = λ i h. absurd (omega (arith, h))

-- with a line in its range behind it a table is layered still
pub layered_more : (T : Table) (e : Entry) → Layered T → every (in_range (length T) 0) (entry_fields e) ≡ true → Layered (T ++ (e ∷ []))
unfolding Layered
layered_more T e h r = λ i b. at i b (ℕ_discrete i (length T))
  where
    at : (i : ℕ) → i < length (T ++ (e ∷ [])) → Dec (i ≡ length T) → every (in_range i 0) (entry_fields (entry (T ++ (e ∷ [])) i)) ≡ true
    at i b (yes q) = rw (q, get_or-append_seam T e [] (entry_of Definition.Kind.top 0 0)) r
    at i b (no q) =
        let m : i < length T = omega (arith, b, q, length-append T (e ∷ [])) in
        rw (get_or_append_left T (e ∷ []) (entry_of Definition.Kind.top 0 0) i m) (h i m)

-- the same of the lines stored
pub layered_stored : (es : List Stored) (n : ℕ) (e : Stored) → n < length es → Layered (map shown (take n es))
    → every (in_range n 0) (entry_fields (shown e)) ≡ true → Layered (map shown (take (n + 1) (set es n e)))
layered_stored es n e h l r = rw (shown_more es n e h) (layered_more _ _ l (rw (shown_length es n (omega (arith, h))) r))

-- and of those that three columns make
module _ (ks : List Kind) (xs ys : List ℕ) (n : ℕ) (T : Table) (h : n < 256) (p : length ks ≡ 256) (q : length xs ≡ 256) (r : length ys ≡ 256) (v : map shown (take n (columns ks xs ys)) ≡ T) (e : Stored) where
  long : n < length (columns ks xs ys)
  long = omega (arith, h, p, columns_length ks xs ys (q ∙ sym p) (r ∙ sym p))

  pub columns_more : map shown (take (n + 1) (columns (set ks n e.kind) (set xs n e.x) (set ys n e.y))) ≡ T ++ (shown e ∷ [])
  columns_more =
      ap (λ es. map shown (take (n + 1) es)) (columns_set ks xs ys n e.kind e.x e.y)
      ∙ shown_more (columns ks xs ys) n e long
      ∙ ap (λ l. l ++ (shown e ∷ [])) v

  pub columns_layered : Layered (map shown (take n (columns ks xs ys))) → every (in_range (length T) 0) (entry_fields (shown e)) ≡ true
      → Layered (map shown (take (n + 1) (columns (set ks n e.kind) (set xs n e.x) (set ys n e.y))))
  columns_layered l w =
      subst (λ es. Layered (map shown (take (n + 1) es))) (sym (columns_set ks xs ys n e.kind e.x e.y))
      (layered_stored (columns ks xs ys) n e long l (rw (count_is ks xs ys n T (omega (arith, h)) p q r v) at w))

-- two kinds are the same exactly if those that they are are
kind_same : (k l : Kind) → sameb the_type l k ≡ decide (Definition.Kind-discrete (kind_of k) (kind_of l))
unfolding decide
kind_same Top l = elim l as (λ m. sameb the_type m Top ≡ decide (Definition.Kind-discrete (kind_of Top) (kind_of m))) [ Top ↦ refl | Bot ↦ refl | Atom ↦ refl | Not ↦ refl | And ↦ refl | Or ↦ refl | Some ↦ refl | All ↦ refl ]
kind_same Bot l = elim l as (λ m. sameb the_type m Bot ≡ decide (Definition.Kind-discrete (kind_of Bot) (kind_of m))) [ Top ↦ refl | Bot ↦ refl | Atom ↦ refl | Not ↦ refl | And ↦ refl | Or ↦ refl | Some ↦ refl | All ↦ refl ]
kind_same Atom l = elim l as (λ m. sameb the_type m Atom ≡ decide (Definition.Kind-discrete (kind_of Atom) (kind_of m))) [ Top ↦ refl | Bot ↦ refl | Atom ↦ refl | Not ↦ refl | And ↦ refl | Or ↦ refl | Some ↦ refl | All ↦ refl ]
kind_same Not l = elim l as (λ m. sameb the_type m Not ≡ decide (Definition.Kind-discrete (kind_of Not) (kind_of m))) [ Top ↦ refl | Bot ↦ refl | Atom ↦ refl | Not ↦ refl | And ↦ refl | Or ↦ refl | Some ↦ refl | All ↦ refl ]
kind_same And l = elim l as (λ m. sameb the_type m And ≡ decide (Definition.Kind-discrete (kind_of And) (kind_of m))) [ Top ↦ refl | Bot ↦ refl | Atom ↦ refl | Not ↦ refl | And ↦ refl | Or ↦ refl | Some ↦ refl | All ↦ refl ]
kind_same Or l = elim l as (λ m. sameb the_type m Or ≡ decide (Definition.Kind-discrete (kind_of Or) (kind_of m))) [ Top ↦ refl | Bot ↦ refl | Atom ↦ refl | Not ↦ refl | And ↦ refl | Or ↦ refl | Some ↦ refl | All ↦ refl ]
kind_same Some l = elim l as (λ m. sameb the_type m Some ≡ decide (Definition.Kind-discrete (kind_of Some) (kind_of m))) [ Top ↦ refl | Bot ↦ refl | Atom ↦ refl | Not ↦ refl | And ↦ refl | Or ↦ refl | Some ↦ refl | All ↦ refl ]
kind_same All l = elim l as (λ m. sameb the_type m All ≡ decide (Definition.Kind-discrete (kind_of All) (kind_of m))) [ Top ↦ refl | Bot ↦ refl | Atom ↦ refl | Not ↦ refl | And ↦ refl | Or ↦ refl | Some ↦ refl | All ↦ refl ]

-- two lines are equal exactly if those that they show are
line_same : (e f : Stored) → (sameb the_type f.kind e.kind && (eqb f.x e.x && eqb f.y e.y)) ≡ same_entry (shown e) (shown f)
line_same e f = grind (arith, kind_same)

-- a line is among those stored exactly if the one that it shows is among those that they show
pub shown_any : (e : Stored) (es : List Stored) → list_any (λ f. sameb the_type f.kind e.kind && (eqb f.x e.x && eqb f.y e.y)) es ≡ any (same_entry (shown e)) (map shown es)
shown_any e [] = refl
shown_any e (f ∷ es) = ap₂ (λ a b. a || b) (line_same e f) (shown_any e es)

-- THE SEARCH. Of the lines before i those are counted that are equal to a line, so that some are exactly if it stands among them
module _ (e : Stored) (T : Table) (i t : ℕ) where
  abbrev pub Counted : ℕ → ℕ → Type 0
  Counted n m = (m ≤ n) × (ltb 0 m ≡ any (same_entry (shown e)) (take n T))

  module _ (f : Stored) (s : shown f ≡ entry T i) (h : i < length T) (c : Counted i t) where
    found_more : any (same_entry (shown e)) (take (i + 1) T) ≡ (any (same_entry (shown e)) (take i T) || (sameb the_type f.kind e.kind && (eqb f.x e.x && eqb f.y e.y)))
    found_more =
        ap (any (same_entry (shown e))) (take_more T i (entry_of Definition.Kind.top 0 0) h)
        ∙ any_more (same_entry (shown e)) (take i T) (entry T i)
        ∙ ap (λ b. any (same_entry (shown e)) (take i T) || b) (ap (same_entry (shown e)) (sym s) ∙ sym (line_same e f))

    -- the next line is equal, or it isn't
    pub counts : (m : ℕ) → (sameb the_type f.kind e.kind && (eqb f.x e.x && eqb f.y e.y)) ≡ true → m ≡ t + 1 → Counted (i + 1) m
    counts m q n = (
      omega (arith, n, c.0),
      lt-ltb 0 m (omega (arith, n)) ∙ sym (found_more ∙ ap (λ b. any (same_entry (shown e)) (take i T) || b) q ∙ or-true (any (same_entry (shown e)) (take i T))),
    )

    pub passes_by : (m : ℕ) → (sameb the_type f.kind e.kind && (eqb f.x e.x && eqb f.y e.y)) ≡ false → m ≡ t → Counted (i + 1) m
    passes_by m q n = (
      omega (arith, n, c.0),
      ap (ltb 0) n ∙ c.1 ∙ sym (found_more ∙ ap (λ b. any (same_entry (shown e)) (take i T) || b) q ∙ or-false (any (same_entry (shown e)) (take i T))),
    )

  -- at the end all are compared
  pub all_counted : Counted i t → length T ≤ i → ltb 0 t ≡ any (same_entry (shown e)) T
  all_counted c l = c.1 ∙ ap (any (same_entry (shown e))) (take_all i T l)
