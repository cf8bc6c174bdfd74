-- The contracts leave one outcome: what a model shows is the model, since its sets are numbers of 32 bits, which their bits determine, and a
-- place is its seat.
-- Assumes nothing.
use Prim.Native.Nat.{ℕ, zero, suc, ◌+◌, ◌*◌, ◌/◌, ◌%◌, ◌^◌, ◌<◌}
use native.Mathlib.Omega.{arith}
use native.Mathlib.Numerals.{add-one}
use mathlib.Core.Bool.{Bool, true, false, cond, ◌&&◌}
use mathlib.Core.List.{List, [], ◌∷◌}
use mathlib.Core.Path.{◌≡◌, refl, sym, ap, ◌∙◌}
use lib.Dec.{eqb, ltb}
use lib.ListN.{length, get_or}
use lib.Pow.{shr-shr, shr_lt}
use lib.Seq.{ext_get_or}
use borrow.Author.Tests.{eqb-true, eqb-false, lt-ltb}
use Rattle.alc.specs.Meaning.{World}
use Rattle.alc.specs.Table.{Table}
use Rattle.sets.specs.Bit.{bit}
use Rattle.extents.specs.Extent.{Extended}
use Rattle.models.specs.Arrays.{atom_in, edge_in, seats, seats_of}
use Rattle.models.specs.Shown.{world_of, PlaceSet, AtomSet, EdgeSet}
use Rattle.models.specs.Told.{Tells}
use Rattle.models.specs.declared.Model.{Model}
use Rattle.std.specs.Prelude.{Option, Some, None}
use Rattle.alc.specs.Model.{Fact}
use Rattle.alc.specs.declared.Element.{Element}

-- a number below 2 ^ n is determined by its bits
digit_same : (x y : ℕ) → eqb (x % 2) 1 ≡ eqb (y % 2) 1 → x % 2 ≡ y % 2
digit_same x y e = go (eqb (y % 2) 1) refl
  where
    go : (b : Bool) → eqb (y % 2) 1 ≡ b → x % 2 ≡ y % 2
    go true h = omega (arith, eqb-true (x % 2) 1 (e ∙ h), eqb-true (y % 2) 1 h)
    go false h = omega (arith, eqb-false (x % 2) 1 (e ∙ h), eqb-false (y % 2) 1 h)

bits_same : (n x y : ℕ) → x < 2 ^ n → y < 2 ^ n → ((d : ℕ) → bit x d ≡ bit y d) → x ≡ y
unfolding bit
bits_same zero x y h k f = omega arith
bits_same (suc n) x y h k f =
    let half : x / 2 ^ 1 ≡ y / 2 ^ 1 = bits_same n (x / 2 ^ 1) (y / 2 ^ 1) (shr_lt n 1 (rw (add-one n) h)) (shr_lt n 1 (rw (add-one n) k)) (λ d.
    ap (λ (q : ℕ). eqb (q % 2) 1) (shr-shr x 1 d) ∙ f (1 + d) ∙ ap (λ (q : ℕ). eqb (q % 2) 1) (sym (shr-shr y 1 d))) in
    let low : x / 1 % 2 ≡ y / 1 % 2 = digit_same (x / 1) (y / 1) (f 0) in
    omega arith

-- what the types of a model's arrays say: so many entries, and a set is a number of 32 bits
pub record Sets (n : ℕ) (l : List ℕ) : Type 0 where
  pub long : length l ≡ n
  pub small : (k : ℕ) → get_or l k 0 < 2 ^ 32

pub record Stored (m : Model) : Type 0 where
  pub places : length m.places ≡ 64
  pub atoms : Sets 64 m.atoms
  pub edges : Sets 512 m.edges

-- two models are the same
pub record Same (m k : Model) : Type 0 where
  pub size : m.size.count ≡ k.size.count
  pub places : m.places ≡ k.places
  pub atoms : m.atoms ≡ k.atoms
  pub edges : m.edges ≡ k.edges

sets_same : (n : ℕ) (l m : List ℕ) → Sets n l → Sets n m → ((k d : ℕ) → bit (get_or l k 0) d ≡ bit (get_or m k 0) d) → l ≡ m
sets_same n l m a b f = ext_get_or 0 l m (a.long ∙ sym b.long) (λ k h. bits_same 32 (get_or l k 0) (get_or m k 0) (a.small k) (b.small k) (f k))

seat_once : (p q : Option Element) → seats p ≡ seats q → p ≡ q
seat_once None None h = refl
seat_once None (Some e) h = cc
seat_once (Some d) None h = cc
seat_once (Some d) (Some e) h = let i : d.0 ≡ e.0 = cc in ap (λ (x : ℕ). Some (record { 0 = x })) i

-- what a model shows determines it
module _ (m k : Model) (a : Stored m) (b : Stored k) (world : world_of m ≡ world_of k) (seats : (n : ℕ) → seats_of m.places n ≡ seats_of k.places n) where
  pub same : Same m k
  unfolding atom_in edge_in seats_of
  same = record {
    size = ap (λ (W : World). W.size) world;
    places = ext_get_or None m.places k.places (a.places ∙ sym b.places) (λ n h. seat_once (get_or m.places n None) (get_or k.places n None) (seats n));
    atoms = sets_same 64 m.atoms k.atoms a.atoms b.atoms (λ A d. ap (λ (W : World). W.atoms A d) world);
    edges = sets_same 512 m.edges k.edges a.edges b.edges (λ n d. at m.edges n d ∙ ap (λ (W : World). W.roles (n / 32) (n % 32) d) world ∙ sym (at k.edges n d));
  }
    where
      at : (l : List ℕ) (n d : ℕ) → bit (get_or l n 0) d ≡ (ltb (n % 32) 32 && bit (get_or l (n / 32 * 32 + n % 32) 0) d)
      at l n d =
          let i : n ≡ n / 32 * 32 + n % 32 = omega arith in
          ap (λ (j : ℕ). bit (get_or l j 0) d) i ∙ rw (lt-ltb (n % 32) 32 (omega arith))

module _ (old new new' : Model) (a : Stored new) (b : Stored new') (r r' : Bool) where
  pub atoms_once : (A d : ℕ) → AtomSet old new A d r → AtomSet old new' A d r' → (r ≡ r') × Same new new'
  atoms_once A d s t = (s.answer ∙ sym t.answer, same new new' a b (s.world ∙ sym t.world) (λ n. s.seats n ∙ sym (t.seats n)))

  pub edges_once : (q d e : ℕ) → EdgeSet old new q d e r → EdgeSet old new' q d e r' → (r ≡ r') × Same new new'
  edges_once q d e s t = (s.answer ∙ sym t.answer, same new new' a b (s.world ∙ sym t.world) (λ n. s.seats n ∙ sym (t.seats n)))

  pub places_once : (n d : ℕ) → PlaceSet old new n d r → PlaceSet old new' n d r' → (r ≡ r') × Same new new'
  places_once n d s t =
      let e : r ≡ r' = s.answer ∙ sym t.answer in
      (e, same new new' a b (s.world ∙ sym t.world) (λ k. s.seats k ∙ ap (λ (q : Bool). cond (q && eqb k n) (d ∷ []) (seats_of old.places k)) e ∙ sym (t.seats k)))

-- a model of so many elements that tells these facts is the only one
pub tells_once : (n : ℕ) (fs : List Fact) (m k : Model) → Stored m → Stored k → Tells n fs m → Tells n fs k → Same m k
tells_once n fs m k a b s t = same m k a b (s.world ∙ sym t.world) (λ i. s.seats i ∙ sym (t.seats i))

pub extents_once : (ext ext' : List ℕ) (n : ℕ) (T : Table) (W : World) → Sets 256 ext → Sets 256 ext' → Extended ext n T W → Extended ext' n T W → ext ≡ ext'
extents_once ext ext' n T W a b s t = sets_same 256 ext ext' a b (λ k d. s k d ∙ sym (t k d))
