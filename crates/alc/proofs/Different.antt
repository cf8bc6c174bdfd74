-- In the table of a text different numbers are different concepts. A tree tells its line's word and numbers, and the trees of the line's parts; the
-- parts have smaller numbers, so by induction their trees tell these. What a line does not say is 0. So lines with equal trees are equal, and no two
-- lines are equal.
-- Assumes nothing.
use Prim.Native.Nat.{ℕ, zero, suc, ◌<◌}
use native.Mathlib.Omega.{arith}
use native.Mathlib.Nat.{not-suc-le-zero}
use mathlib.Core.List.{List, [], ◌∷◌, ◌++◌, map, tail-eq_of_cons-eq, head-eq_of_cons-eq}
use mathlib.Core.Path.{◌≡◌, refl, sym, ap, ap₂, subst, ◌∙◌}
use lib.ListN.{length, get_or-map}
use Rattle.lines.specs.Text.{lines_of}
use Rattle.lines.specs.declared.Item.{Item}
use Rattle.lines.specs.declared.Item.TheVariants.{Says, Wrong}
use Rattle.alc.specs.Lists.{All}
use Rattle.alc.specs.Meaning.{Tree}
use Rattle.alc.specs.Table.{Table, Entry, Kind, entry, entry_of, fields_by, shape, tree_of}
use Rattle.alc.specs.Claims.{Sided}
use Rattle.alc.specs.Dossier.{Said, concept, claim, proof, model, step, size, fact, unread, sayings, said_by}
use Rattle.alc.specs.Reading.{GoodTable, Evidence, a_derivation, a_model, Reads}
use Rattle.alc.proofs.Trees.{concepts, law, well_formed}
use Rattle.alc.proofs.Numbered.{table_iff}
use Rattle.alc.proofs.ListFacts.{All-at}

-- WHAT A LINE DOES NOT SAY
-- the line with 0 for what a line of its kind does not say
abbrev bare : Kind → ℕ → ℕ → Entry
bare Kind.top x y = entry_of Kind.top 0 0
bare Kind.bot x y = entry_of Kind.bot 0 0
bare Kind.atom x y = entry_of Kind.atom x 0
bare Kind.not x y = entry_of Kind.not x 0
bare Kind.and x y = entry_of Kind.and x y
bare Kind.or x y = entry_of Kind.or x y
bare Kind.some x y = entry_of Kind.some x y
bare Kind.all x y = entry_of Kind.all x y

abbrev Bare : Entry → Type 0
Bare e = bare e.kind e.x e.y ≡ e

abbrev bared : Said → Said
bared (concept e) = concept (bare e.kind e.x e.y)
bared (claim s) = claim s
bared proof = proof
bared model = model
bared (step s) = step s
bared (size n) = size n
bared (fact f) = fact f
bared unread = unread

-- every word's row says 0 there
said_bare : (i : Item) → bared (said_by i) ≡ said_by i
unfolding said_by
said_bare (Says l) = sym (get_or-map bared (sayings l.side l.n0 l.n1 l.n2) l.word unread)
said_bare Wrong = refl

lines_bare : (is : List Item) → map bared (map said_by is) ≡ map said_by is
lines_bare [] = refl
lines_bare (i ∷ is) = ap₂ ◌∷◌ (said_bare i) (lines_bare is)

all_bare : (T : Table) (l : List Said) → map bared (map concept T ++ l) ≡ map concept T ++ l → All Bare T
all_bare [] l e = tt
all_bare (t ∷ T) l e = let h : concept (bare t.kind t.x t.y) ≡ concept t = head-eq_of_cons-eq e in (cc, all_bare T l (tail-eq_of_cons-eq e))

-- WHAT A TREE TELLS
abbrev kind_of : Tree → Kind
kind_of Tree.top = Kind.top
kind_of Tree.bot = Kind.bot
kind_of (Tree.atom A) = Kind.atom
kind_of (Tree.neg t) = Kind.not
kind_of (Tree.and t u) = Kind.and
kind_of (Tree.or t u) = Kind.or
kind_of (Tree.some r t) = Kind.some
kind_of (Tree.all r t) = Kind.all

kind_of_lem : (k : Kind) (x y : ℕ) (t : ℕ → Tree) → kind_of (shape k x y t) ≡ k
kind_of_lem Kind.top x y t = refl
kind_of_lem Kind.bot x y t = refl
kind_of_lem Kind.atom x y t = refl
kind_of_lem Kind.not x y t = refl
kind_of_lem Kind.and x y t = refl
kind_of_lem Kind.or x y t = refl
kind_of_lem Kind.some x y t = refl
kind_of_lem Kind.all x y t = refl

-- where the trees of smaller numbers tell them, the tree of a line tells the line
module _ (t : ℕ → Tree) (i j : ℕ) (tells : (p q : ℕ) → p < i → q < j → t p ≡ t q → p ≡ q) where
  same_bare : (k : Kind) (x y u v : ℕ) → All (λ p. p < i) (concepts (fields_by k x y)) → All (λ q. q < j) (concepts (fields_by k u v))
      → shape k x y t ≡ shape k u v t → bare k x y ≡ bare k u v
  same_bare Kind.top x y u v a b e = refl
  same_bare Kind.bot x y u v a b e = refl
  same_bare Kind.atom x y u v a b e = ap (λ z. entry_of Kind.atom z 0) cc
  same_bare Kind.not x y u v a b e = ap (λ z. entry_of Kind.not z 0) (tells x u a.0 b.0 cc)
  same_bare Kind.and x y u v a b e = ap₂ (entry_of Kind.and) (tells x u a.0 b.0 cc) (tells y v a.1.0 b.1.0 cc)
  same_bare Kind.or x y u v a b e = ap₂ (entry_of Kind.or) (tells x u a.0 b.0 cc) (tells y v a.1.0 b.1.0 cc)
  same_bare Kind.some x y u v a b e = let r : x ≡ u = cc in ap₂ (entry_of Kind.some) r (tells y v a.0 b.0 cc)
  same_bare Kind.all x y u v a b e = let r : x ≡ u = cc in ap₂ (entry_of Kind.all) r (tells y v a.0 b.0 cc)

  same_grown : (k l : Kind) → l ≡ k → (x y u v : ℕ) → All (λ p. p < i) (concepts (fields_by k x y)) → All (λ q. q < j) (concepts (fields_by l u v))
      → shape k x y t ≡ shape l u v t → bare k x y ≡ bare l u v
  same_grown k l h x y u v a b e = rw h (same_bare k x y u v a (rw h at b) (rw h at e))

module _ (T : Table) (g : GoodTable T) (z : All Bare T) where
  same_line : (i j : ℕ) → i < length T → j < length T → entry T i ≡ entry T j → i ≡ j
  same_line i j a b e =
      let d = ((table_iff T).0 g).2 in
      let n : i < j → ⊥ = λ (l : i < j). d i j l b e in
      let m : j < i → ⊥ = λ (l : j < i). d j i l a (sym e) in
      omega (arith, n, m)

  below : (n i j : ℕ) → i < n → i < length T → j < length T → tree_of T i ≡ tree_of T j → i ≡ j
  below zero i j l a b e = absurd (not-suc-le-zero l)
  below (suc n) i j l a b e =
      let wf = well_formed T g in
      let f = entry T i in
      let h = entry T j in
      let grown : shape f.kind f.x f.y (tree_of T) ≡ shape h.kind h.x h.y (tree_of T) = sym (law T wf i) ∙ e ∙ law T wf j in
      let kinds : h.kind ≡ f.kind = sym (kind_of_lem h.kind h.x h.y (tree_of T)) ∙ ap kind_of (sym grown) ∙ kind_of_lem f.kind f.x f.y (tree_of T) in
      let s = same_grown (tree_of T) i j (λ (p q : ℕ) (r : p < i) (s : q < j) u. below n p q (omega arith) (omega arith) (omega arith) u) f.kind h.kind kinds f.x f.y h.x h.y (wf i) (wf j) grown in
      same_line i j a b (sym (All-at (entry_of Kind.top 0 0) Bare T z i a) ∙ s ∙ All-at (entry_of Kind.top 0 0) Bare T z j b)

-- in the table of a text
from_lines : (text : List ℕ) (T : Table) (l : List Said) → map said_by (lines_of text) ≡ map concept T ++ l → GoodTable T → (i j : ℕ) → i < length T → j < length T
    → tree_of T i ≡ tree_of T j → i ≡ j
from_lines text T l e g i j a b h = below T g (all_bare T l (subst (λ s. map bared s ≡ s) e (lines_bare (lines_of text)))) (suc i) i j (omega arith) a b h

pub one_number : (text : List ℕ) (T : Table) (cs : List Sided) (x : Evidence) → Reads text T cs x → (i j : ℕ) → i < length T → j < length T
    → tree_of T i ≡ tree_of T j → i ≡ j
one_number text T cs (a_derivation ss) r i j a b h = from_lines text T _ r.lines r.table i j a b h
one_number text T cs (a_model n fs) r i j a b h = from_lines text T _ r.lines r.table i j a b h
