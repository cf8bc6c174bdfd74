-- A step is sound: where its plan is, and every premise that it leaves holds everywhere, the goal that it works on holds everywhere. For in an
-- interpretation where the goal fails, all that the step needs counts against it, so one of the premises fails too, if need be with the new
-- names placed elsewhere, which no claim of the goal sees. One proof for all rules.
-- Assumes nothing.
use Prim.Native.Nat.{ℕ}
use mathlib.Core.Bool.{Bool, true, false, not}
use mathlib.Core.List.{List, [], ◌∷◌, ◌++◌, map}
use mathlib.Core.Logic.{◌⊎◌, inl, inr}
use mathlib.Core.Path.{◌≡◌, refl, ap, ap₂, ◌∙◌}
use borrow.Author.Tests.{not-true}
use Rattle.alc.specs.Lists.{All, every, elem, distinct}
use Rattle.alc.specs.Meaning.{Interp, Placed, member}
use Rattle.alc.specs.Table.{Table, tree_of}
use Rattle.alc.specs.Claims.{Claim, is, sub, link, Sided, left, right, Goal, names, has, truth, holds_by, holds, Valid}
use Rattle.alc.specs.Rules.{Step, Plan, plan}
use Rattle.alc.specs.Goals.{avoids, rest, premises, are_new}
use Rattle.alc.proofs.Logic.{both_true, clash}
use Rattle.alc.proofs.ListFacts.{All-zip, All-append, every-All, any-All, All-none, All-needs, All-rest}

-- the step may be taken at the goal: the entry is of its kind, the claims needed are there, the new names are new
pub record Fits (T : Table) (g : Goal) (s : Step) : Type 0 where
  pub asks : (plan T s).asks ≡ true
  pub needs : every (has g) (plan T s).needs ≡ true
  pub news : are_new (plan T s).news g ≡ true

-- the claim counts against the goal
abbrev pub Bad : Table → Interp → Sided → Type 0
Bad T I s = holds_by T I s ≡ false

-- the same world, the names placed anew
abbrev pub moved : Interp → (ℕ → ℕ) → Interp
moved I π = record { world = I.world; place = π }

-- the names are placed anew, the new ones at most, so that every claim of the list counts against the goal
pub record Refutes (T : Table) (I : Interp) (news : List ℕ) (l : List Sided) : Type 0 where
  pub place : ℕ → ℕ
  pub placed : Placed (moved I place)
  pub agrees : (a : ℕ) → elem a news ≡ false → place a ≡ I.place a
  pub bad : All (Bad T (moved I place)) l

-- ... so for one of the lists
abbrev pub Open : Table → Interp → List ℕ → List (List Sided) → Type 0
Open T I news [] = ⊥
Open T I news (l ∷ ls) = Refutes T I news l ⊎ Open T I news ls

-- wherever all that the plan needs counts against the goal, so does all that it adds in one of the premises
abbrev pub Sound : Table → Plan → Type 0
Sound T p = (I : Interp) → Placed I → p.asks ≡ true → distinct p.news ≡ true → All (λ s. avoids p.news s ≡ true) p.needs → All (Bad T I) p.needs → Open T I p.news p.premises

-- a claim that names no new name keeps its value
truth_moved : (T : Table) (I : Interp) (news : List ℕ) (π : ℕ → ℕ) → ((a : ℕ) → elem a news ≡ false → π a ≡ I.place a)
    → (c : Claim) → All (λ a. not (elem a news) ≡ true) (names c) → truth T (moved I π) c ≡ truth T I c
unfolding truth
truth_moved T I news π f (is a i) n = ap (member I.world (tree_of T i)) (f a (not-true (elem a news) n.0))
truth_moved T I news π f (sub i j) n = refl
truth_moved T I news π f (link r a b) n = ap₂ (I.world.roles r) (f a (not-true (elem a news) n.0)) (f b (not-true (elem b news) n.1.0))

holds_by_moved : (T : Table) (I : Interp) (news : List ℕ) (π : ℕ → ℕ) → ((a : ℕ) → elem a news ≡ false → π a ≡ I.place a)
    → (s : Sided) → avoids news s ≡ true → holds_by T (moved I π) s ≡ holds_by T I s
holds_by_moved T I news π f (left c) n = ap not (truth_moved T I news π f c (every-All (λ a. not (elem a news)) (names c) n))
holds_by_moved T I news π f (right c) n = truth_moved T I news π f c (every-All (λ a. not (elem a news)) (names c) n)

-- a premise cannot hold everywhere where its claims and the goal's are refuted
no_open : (T : Table) (I : Interp) (news : List ℕ) (g : Goal) → All (λ s. avoids news s ≡ true) g → All (Bad T I) g
    → (kept : Goal) → ((P : Sided → Type 0) → All P g → All P kept) → (ls : List (List Sided)) → Open T I news ls → All (Valid T) (map (λ l. kept ++ l) ls) → ⊥
no_open T I news g n b kept k [] o v = o
no_open T I news g n b kept k (l ∷ ls) (inl r) v =
    let J = moved I r.place in
    let old : All (Bad T J) g = All-zip (λ s a e. holds_by_moved T I news r.place r.agrees s a ∙ e) g n b in
    clash (holds T J (kept ++ l)) (v.0 J r.placed) (All-none (holds_by T J) (kept ++ l) (All-append (Bad T J) kept l (k (Bad T J) old) r.bad))
no_open T I news g n b kept k (l ∷ ls) (inr o) v = no_open T I news g n b kept k ls o v.1

pub step_sound : (T : Table) (s : Step) → Sound T (plan T s) → (g : Goal) → Fits T g s → All (Valid T) (premises (plan T s) g) → Valid T g
step_sound T s sound g f v I placed = go (holds T I g) refl
  where
    p : Plan
    p = plan T s

    of_needs : (P : Sided → Type 0) → All P g → All P p.needs
    of_needs P k = All-needs P g p.needs (every-All (has g) p.needs f.needs) k

    differ : (distinct p.news ≡ true) × (every (avoids p.news) g ≡ true)
    differ = both_true (distinct p.news) (every (avoids p.news) g) f.news

    new : All (λ t. avoids p.news t ≡ true) g
    new = every-All (avoids p.news) g differ.1

    go : (b : Bool) → holds T I g ≡ b → b ≡ true
    go true h = refl
    go false h =
        let bad : All (Bad T I) g = any-All (holds_by T I) g h in
        let opened = sound I placed f.asks differ.0 (of_needs (λ t. avoids p.news t ≡ true) new) (of_needs (Bad T I) bad) in
        absurd (no_open T I p.news g new bad (rest p.drops p.needs g) (λ P k. All-rest P p.drops p.needs g k) p.premises opened v)
