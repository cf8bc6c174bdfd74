-- A goal's claims, one behind the other: its array is 64 long, so that below the count each record is a claim of the goal.
-- Assumes nothing.
use Prim.Native.Nat.{ℕ, suc, ◌+◌, ◌≤◌, ◌<◌}
use native.Mathlib.Omega.{arith}
use native.Mathlib.Numerals.{add-one}
use mathlib.Core.Bool.{Bool, true, false, cond}
use mathlib.Core.List.{List, ◌∷◌}
use mathlib.Core.Path.{◌≡◌, refl, ap, subst, ◌∙◌}
use lib.Dec.{eqb}
use lib.ListN.{length, get_or, drop, length-map, get_or-map}
use lib.Seq.{length-take-le, get_or-take, drop-cons}
use mir.Val.{Val}
use denote.Laws.{Is}
use denote.Struct.Declared.{row}
use Rattle.alc.specs.Lists.{All, every, first_at}
use Rattle.alc.specs.Claims.{Claim, Sided, left, right, claim}
use Rattle.alc.specs.Shown.{claim_of, sided_of, records, blank, claims_in}
use Rattle.alc.specs.declared.Claim.{Claim as Record}
use Rattle.alc.specs.declared.Goal.{Goal as Records}
use Rattle.alc.specs.contracts.Goal.{the_type}
use Rattle.alc.proofs.ListFacts.{All-at}

-- what a function is told of a goal that it is passed
pub goal-length : (g : Records) (vs : List Val) → Is (row the_type) g vs → length g.claims ≡ 64
goal-length g vs p = p.1.1.0.1.0.1

pub claim_back : (c : Record) → claim (sided_of c) ≡ claim_of c
claim_back c = go (eqb c.side 1)
  where
    go : (b : Bool) → claim (cond b (left (claim_of c)) (right (claim_of c))) ≡ claim_of c
    go true = refl
    go false = refl

module _ (g : Records) where
  -- from the k-th claim on
  pub cut_at : (k : ℕ) → k < length (records g) → drop k (claims_in g) ≡ sided_of (get_or (records g) k blank) ∷ drop (k + 1) (claims_in g)
  cut_at k h =
      drop-cons (claims_in g) k (sided_of blank) (omega (arith, length-map (records g) sided_of))
      ∙ rw (add-one k) (ap (λ (s : Sided). s ∷ drop (suc k) (claims_in g)) (get_or-map sided_of (records g) k blank))

  -- what holds of all the claims holds of the k-th
  pub claim_in : (P : Claim → Type 0) → All (λ s. P (claim s)) (claims_in g) → (k : ℕ) → k < length (records g) → P (claim_of (get_or (records g) k blank))
  claim_in P h k l =
      subst P (ap claim (get_or-map sided_of (records g) k blank) ∙ claim_back (get_or (records g) k blank))
      (All-at (sided_of blank) (λ s. P (claim s)) (claims_in g) h k (omega (arith, length-map (records g) sided_of)))

  -- the same by the goal's own array
  module _ (few : g.count ≤ 64) (long : length g.claims ≡ 64) where
    within : (k : ℕ) → k < g.count → k < length (records g)
    within k h = omega (arith, length-take-le g.count g.claims (omega arith))

    pub from : (k : ℕ) → k < g.count → drop k (claims_in g) ≡ sided_of (get_or g.claims k blank) ∷ drop (k + 1) (claims_in g)
    from k h = cut_at k (within k h) ∙ ap (λ (r : Record). sided_of r ∷ drop (k + 1) (claims_in g)) (get_or-take g.count g.claims k blank h)

    pub claim_at : (P : Claim → Type 0) → All (λ s. P (claim s)) (claims_in g) → (k : ℕ) → k < g.count → P (claim_of (get_or g.claims k blank))
    claim_at P p k h = subst (λ (r : Record). P (claim_of r)) (get_or-take g.count g.claims k blank h) (claim_in P p k (within k h))

-- a search of the list: it goes on behind a claim that fails the test, and ends at one that passes
module _ {A : Type 0} (p : A → Bool) (l : List A) where
  module _ (i : ℕ) (x : A) (cut : drop i l ≡ x ∷ drop (i + 1) l) where
    pub first_more : first_at p l ≡ i + first_at p (drop i l) → p x ≡ false → first_at p l ≡ (i + 1) + first_at p (drop (i + 1) l)
    first_more inv h = let e : first_at p (drop i l) ≡ suc (first_at p (drop (i + 1) l)) = rw (cut, h) in omega arith

    pub first_here : first_at p l ≡ i + first_at p (drop i l) → p x ≡ true → first_at p l ≡ i
    first_here inv h = let e : first_at p (drop i l) ≡ 0 = rw (cut, h) in omega arith

    pub every_more : every p l ≡ every p (drop i l) → p x ≡ true → every p l ≡ every p (drop (i + 1) l)
    every_more inv h = inv ∙ rw (cut, h)

    pub every_here : every p l ≡ every p (drop i l) → p x ≡ false → every p l ≡ false
    every_here inv h = inv ∙ rw (cut, h)
