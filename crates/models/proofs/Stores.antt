-- What the arrays show once an entry is stored: that entry is the new one and every other is as it was, and two edges stand at one place
-- of the array just if they are of one role and leave one element.
-- Assumes nothing.
use Prim.Native.Nat.{ℕ, zero, suc, ◌+◌, ◌*◌, ◌<◌}
use native.Mathlib.Omega.{arith}
use native.Mathlib.Decide.{ℕ_discrete}
use mathlib.Core.Bool.{Bool, true, false, not, cond, ◌&&◌, ◌||◌, and-false, and_assoc, or-false}
use mathlib.Core.List.{List, [], ◌∷◌}
use mathlib.Core.Path.{◌≡◌, refl, sym, ap, ap₂, ◌∙◌, fun_ext}
use lib.Dec.{eqb, ltb}
use lib.ListN.{length, get_or, set, replicate}
use lib.Seq.{get_or-set_same, get_or-set_other}
use borrow.Author.Tests.{eq-eqb, ne_eqb, lt-ltb, ltb-true, ltb-false}
use Rattle.std.specs.Prelude.{Option, Some, None}
use Rattle.std.proofs.lemmas.List.{get_or_default}
use Rattle.std.specs.Option.{is_some}
use Rattle.alc.specs.Lists.{every, is_empty}
use Rattle.alc.specs.Model.{interp_of}
use Rattle.alc.specs.Meaning.{World}
use Rattle.alc.specs.declared.Element.{Element}
use Rattle.sets.specs.Bit.{bit}
use Rattle.sets.proofs.BitLaws.{bit_zero}
use Rattle.models.specs.Arrays.{atom_in, edge_in, seats, seats_of, Inside}
use Rattle.models.specs.Shown.{with_atom, with_edge}
use Rattle.alc.proofs.ListFacts.{zeros}

index_eqb : (r d s f : ℕ) → d < 32 → f < 32 → eqb (r * 32 + d) (s * 32 + f) ≡ (eqb r s && eqb d f)
index_eqb r d s f h k = go (ℕ_discrete r s) (ℕ_discrete d f)
  where
    go : Dec (r ≡ s) → Dec (d ≡ f) → eqb (r * 32 + d) (s * 32 + f) ≡ (eqb r s && eqb d f)
    go (yes p) (yes q) = eq-eqb (r * 32 + d) (s * 32 + f) (omega arith) ∙ sym (rw (eq-eqb r s p, eq-eqb d f q) refl)
    go (yes p) (no q) = ne_eqb (r * 32 + d) (s * 32 + f) (λ (e : r * 32 + d ≡ s * 32 + f). q (omega arith)) ∙ sym (rw (eq-eqb r s p, ne_eqb d f q) refl)
    go (no p) q = ne_eqb (r * 32 + d) (s * 32 + f) (λ (e : r * 32 + d ≡ s * 32 + f). p (omega arith)) ∙ sym (rw (ne_eqb r s p) refl)

-- v has the element d besides what the set at i has, however that is read, and is stored there
module _ (l : List ℕ) (i x v d : ℕ) (h : i < length l) (marks : (e : ℕ) → bit v e ≡ (bit (get_or l i x) e || eqb d e)) where
  there : get_or l i x ≡ get_or l i 0
  there = get_or_default l i x 0 h

  -- so one element more is in the set at i, and every other set is as it was
  pub set_at : (j e : ℕ) → bit (get_or (set l i v) j 0) e ≡ (bit (get_or l j 0) e || (eqb i j && eqb d e))
  set_at j e = go (ℕ_discrete i j)
    where
      go : Dec (i ≡ j) → bit (get_or (set l i v) j 0) e ≡ (bit (get_or l j 0) e || (eqb i j && eqb d e))
      go (yes p) = rw (← p, get_or-set_same l i v 0 h, eq-eqb i i refl) (marks e ∙ ap (λ (y : ℕ). bit y e || eqb d e) there)
      go (no p) = rw (get_or-set_other l i j v 0 (λ q. p (sym q)), ne_eqb i j p) (sym (or-false (bit (get_or l j 0) e)))

  -- an atom has one element more
  pub atom_world : (n : ℕ) (roles : ℕ → ℕ → ℕ → Bool)
      → ◌≡◌ {A = World} (record { size = n; atoms = atom_in (set l i v); roles = roles }) (with_atom (record { size = n; atoms = atom_in l; roles = roles }) i d)
  unfolding atom_in
  atom_world n roles = ap (λ (f : ℕ → ℕ → Bool). record { size = n; atoms = f; roles = roles }) (fun_ext (λ B. fun_ext (set_at B)))

  -- a role has one pair more
  module _ (r a : ℕ) (low : a < 32) (at : i ≡ r * 32 + a) where
    edge_at : (s f g : ℕ) → edge_in (set l i v) s f g ≡ (edge_in l s f g || (eqb r s && (eqb a f && eqb d g)))
    unfolding edge_in
    edge_at s f g = go (ltb f 32) refl
      where
        go : (b : Bool) → ltb f 32 ≡ b → edge_in (set l i v) s f g ≡ (edge_in l s f g || (eqb r s && (eqb a f && eqb d g)))
        go true t =
            rw t (set_at (s * 32 + f) g
            ∙ ap (λ (b : Bool). bit (get_or l (s * 32 + f) 0) g || (b && eqb d g)) (ap (λ (k : ℕ). eqb k (s * 32 + f)) at ∙ index_eqb r a s f low (ltb-true f 32 t))
            ∙ ap (λ (b : Bool). bit (get_or l (s * 32 + f) 0) g || b) (and_assoc (eqb r s) (eqb a f) (eqb d g)))
        go false t = rw (t, ne_eqb a f (λ (p : a ≡ f). omega (arith, ltb-false f 32 t))) (sym (and-false (eqb r s)))

    pub edge_world : (n : ℕ) (atoms : ℕ → ℕ → Bool)
        → ◌≡◌ {A = World} (record { size = n; atoms = atoms; roles = edge_in (set l i v) }) (with_edge (record { size = n; atoms = atoms; roles = edge_in l }) r a d)
    edge_world n atoms = ap (λ (f : ℕ → ℕ → ℕ → Bool). record { size = n; atoms = atoms; roles = f }) (fun_ext (λ s. fun_ext (λ f. fun_ext (edge_at s f))))

-- a name is placed just if there is an element
pub seated_is : (o : Option Element) → not (is_empty (seats o)) ≡ is_some o
seated_is None = refl
seated_is (Some d) = refl

-- blank arrays: no name is placed, no atom has an element and no role a pair
pub blank_seats : (a : ℕ) → seats_of (replicate 64 None) a ≡ []
unfolding seats_of
blank_seats a = ap seats (blanks 64 a)
  where
    blanks : (k i : ℕ) → ◌≡◌ {A = Option Element} (get_or (replicate k None) i None) None
    blanks zero i = refl
    blanks (suc k) zero = refl
    blanks (suc k) (suc i) = blanks k i

pub blank_inside : (n a : ℕ) → every (λ d. ltb d n) (seats_of (replicate 64 None) a) ≡ true
blank_inside n a = ap (every (λ d. ltb d n)) (blank_seats a)

pub blank_world : (n : ℕ) → ◌≡◌ {A = World} (record { size = n; atoms = atom_in (replicate 64 0); roles = edge_in (replicate 512 0) }) (interp_of n []).world
unfolding atom_in edge_in
blank_world n =
    ap₂ (λ (f : ℕ → ℕ → Bool) (g : ℕ → ℕ → ℕ → Bool). record { size = n; atoms = f; roles = g })
    (fun_ext (λ A. fun_ext (λ d. ap (λ (x : ℕ). bit x d) (zeros 64 A) ∙ bit_zero d)))
    (fun_ext (λ r. fun_ext (λ d. fun_ext (λ e. ap (λ (x : ℕ). ltb d 32 && bit x e) (zeros 512 (r * 32 + d)) ∙ ap (λ (t : Bool). ltb d 32 && t) (bit_zero e) ∙ and-false (ltb d 32)))))

-- of n elements, d or those that were there
pub inside_put : (n d : ℕ) (q : Bool) (l : List ℕ) → d < n → every (λ e. ltb e n) l ≡ true → every (λ e. ltb e n) (cond q (d ∷ []) l) ≡ true
inside_put n d true l low old = rw (lt-ltb d n low)
inside_put n d false l low old = old

-- the name at i is put at d
module _ (l : List (Option Element)) (i : ℕ) (d : Element) (h : i < length l) where
  pub seats_at : (b : ℕ) → seats_of (set l i (Some d)) b ≡ cond (eqb b i) (d.0 ∷ []) (seats_of l b)
  unfolding seats_of
  seats_at b = go (ℕ_discrete b i)
    where
      go : Dec (b ≡ i) → seats (get_or (set l i (Some d)) b None) ≡ cond (eqb b i) (d.0 ∷ []) (seats (get_or l b None))
      go (yes p) = rw (p, get_or-set_same l i (Some d) None h, eq-eqb i i refl)
      go (no p) = rw (get_or-set_other l i b (Some d) None p, ne_eqb b i p)

  -- each place that was one of n elements still is
  pub inside_at : (n : ℕ) → d.0 < n → Inside n l → Inside n (set l i (Some d))
  inside_at n low old b = ap (every (λ e. ltb e n)) (seats_at b) ∙ inside_put n d.0 (eqb b i) (seats_of l b) low (old b)
