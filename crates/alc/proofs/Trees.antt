-- The law of the table: the tree of a line is grown from the trees of its parts. A part's number is smaller, so a tree taken deeper is the same.
-- Assumes nothing.
use Prim.Native.Nat.{ℕ, zero, suc, ◌+◌, ◌<◌}
use native.Mathlib.Omega.{arith}
use native.Mathlib.Nat.{not-suc-le-zero}
use mathlib.Core.Path.{◌≡◌, refl, ap, ap₂}
use mathlib.Core.Bool.{true, decide_iff}
use mathlib.Core.List.{List, [], ◌∷◌, ◌++◌}
use lib.ListN.{length, length-append}
use native.Mathlib.Nat.{add-zero, zero-add}
use borrow.Author.Tests.{ltb-true}
use Rattle.alc.specs.Lists.{All}
use Rattle.alc.proofs.ListFacts.{All-map, every-All}
use Rattle.alc.specs.Meaning.{Tree}
use Rattle.alc.specs.Table.{Table, Entry, Kind, Kind-discrete, entry, is_a, fields_by, entry_fields, shape, grow, tree_to, tree_of}
use Rattle.alc.specs.Ranges.{Field, role, atom, name, element, size, concept, in_range}
use Rattle.alc.specs.Reading.{InTurn, InRange, GoodTable}

-- the concept numbers among the fields
abbrev pub concepts : List Field → List ℕ
concepts [] = []
concepts (role r ∷ fs) = concepts fs
concepts (atom A ∷ fs) = concepts fs
concepts (name a ∷ fs) = concepts fs
concepts (element d ∷ fs) = concepts fs
concepts (size n ∷ fs) = concepts fs
concepts (concept i ∷ fs) = i ∷ concepts fs

-- the parts of a line: the concept numbers among its fields
abbrev pub parts : Entry → List ℕ
parts e = concepts (entry_fields e)

-- "A concept field is smaller than its own line's number"
abbrev pub WellFormed : Table → Type 0
WellFormed T = (i : ℕ) → All (λ p. p < i) (parts (entry T i))

-- equal trees of the parts, equal trees
shape_same : (k : Kind) (x y : ℕ) (t u : ℕ → Tree) → All (λ p. t p ≡ u p) (concepts (fields_by k x y)) → shape k x y t ≡ shape k x y u
shape_same Kind.top x y t u h = refl
shape_same Kind.bot x y t u h = refl
shape_same Kind.atom x y t u h = refl
shape_same Kind.not x y t u h = ap Tree.neg h.0
shape_same Kind.and x y t u h = ap₂ Tree.and h.0 h.1.0
shape_same Kind.or x y t u h = ap₂ Tree.or h.0 h.1.0
shape_same Kind.some x y t u h = ap (Tree.some x) h.0
shape_same Kind.all x y t u h = ap (Tree.all x) h.0

module _ (T : Table) (wf : WellFormed T) where
  grow_same : (i : ℕ) (t u : ℕ → Tree) → ((p : ℕ) → p < i → t p ≡ u p) → grow (entry T i) t ≡ grow (entry T i) u
  grow_same i t u f = shape_same (entry T i).kind (entry T i).x (entry T i).y t u (All-map f (parts (entry T i)) (wf i))

  -- lines enough are lines enough
  enough : (n m i : ℕ) → i < n → i < m → tree_to n T i ≡ tree_to m T i
  unfolding tree_to
  enough zero m i l k = absurd (not-suc-le-zero l)
  enough (suc n) zero i l k = absurd (not-suc-le-zero k)
  enough (suc n) (suc m) i l k = grow_same i (tree_to n T) (tree_to m T) (λ p s. enough n m p (omega arith) (omega arith))

  pub law : (i : ℕ) → tree_of T i ≡ grow (entry T i) (tree_of T)
  unfolding tree_to tree_of
  law i = grow_same i (tree_to i T) (tree_of T) (λ p s. enough i (suc p) p s (omega arith))

  -- the same at a line of a known kind
  pub law_at : (i : ℕ) (k : Kind) → is_a T i k ≡ true → tree_of T i ≡ shape k (entry T i).x (entry T i).y (tree_of T)
  law_at i k e = rw (← ((decide_iff (Kind-discrete (entry T i).kind k)).0 e)) (law i)

-- a concept field in its range is a smaller number
parts_below : (n m : ℕ) (fs : List Field) → All (λ f. in_range n m f ≡ true) fs → All (λ p. p < n) (concepts fs)
parts_below n m [] h = tt
parts_below n m (role r ∷ fs) h = parts_below n m fs h.1
parts_below n m (atom A ∷ fs) h = parts_below n m fs h.1
parts_below n m (name a ∷ fs) h = parts_below n m fs h.1
parts_below n m (element d ∷ fs) h = parts_below n m fs h.1
parts_below n m (size k ∷ fs) h = parts_below n m fs h.1
parts_below n m (concept i ∷ fs) h = (ltb-true i n h.0, parts_below n m fs h.1)

lines_below : (above T : Table) → InTurn (λ us e. InRange (length us) 0 (entry_fields e)) above T → (i : ℕ) → All (λ p. p < length above + i) (parts (entry T i))
lines_below above [] h i = tt
lines_below above (e ∷ T) h zero = rw add-zero (parts_below (length above) 0 (entry_fields e) (every-All (in_range (length above) 0) (entry_fields e) h.0))
lines_below above (e ∷ T) h (suc i) =
    let q : length (above ++ (e ∷ [])) + i ≡ length above + suc i = omega (arith, length-append above (e ∷ [])) in
    rw q at (lines_below (above ++ (e ∷ [])) T h.1 i)

pub well_formed : (T : Table) → GoodTable T → WellFormed T
well_formed T t i = rw zero-add at (lines_below [] T t.ranges i)
