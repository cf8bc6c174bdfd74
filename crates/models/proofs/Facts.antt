-- A model tells the facts that the lines say: each line adds to both sides alike, since a fact is said among more facts just if it was said
-- among the first or is the last.
-- Assumes nothing.
use Prim.Native.Nat.{ℕ, ◌<◌}
use native.Mathlib.Decide.{ℕ_discrete}
use mathlib.Core.Bool.{Bool, true, false, not, cond, decide, ◌&&◌, ◌||◌, false≢true, or-false}
use mathlib.Core.List.{List, [], ◌∷◌, ◌++◌, append-nil, append_assoc}
use mathlib.Core.Path.{◌≡◌, refl, sym, ap, ap₂, ◌∙◌, fun_ext}
use lib.Dec.{eqb, ltb}
use borrow.Author.Tests.{eq-eqb, ne_eqb, eqb-true}
use Rattle.alc.specs.Lists.{every, is_empty}
use Rattle.alc.specs.Meaning.{World}
use Rattle.alc.specs.Model.{Fact, Fact-discrete, places, has, edge, is_said, places_of, places_in, repeats, interp_of}
use Rattle.alc.proofs.Logic.{both_true}
use Rattle.alc.proofs.ListFacts.{any_more}
use Rattle.models.specs.Arrays.{seats_of, Inside}
use Rattle.models.specs.Shown.{with_atom, with_edge, PlaceSet, AtomSet, EdgeSet}
use Rattle.models.specs.declared.Model.{Model}
use Rattle.models.specs.Told.{Tells}
use Rattle.models.proofs.Stores.{inside_put}

-- two facts are equal just if they are of one word and their numbers are equal
decide_is : {P : Type 0} (d : Dec P) (b : Bool) → (P → b ≡ true) → (b ≡ true → P) → decide d ≡ b
unfolding decide
decide_is (yes p) b f g = sym (f p)
decide_is (no n) true f g = absurd (n (g refl))
decide_is (no n) false f g = refl

abbrev same : Fact → Fact → Bool
same f h = decide (Fact-discrete ℕ_discrete f h)

apart : (f h : Fact) → (f ≡ h → false ≡ true) → same f h ≡ false
apart f h n = decide_is (Fact-discrete ℕ_discrete f h) false n (λ e. absurd (false≢true e))

same_has : (A d B e : ℕ) → same (has B e) (has A d) ≡ (eqb A B && eqb d e)
same_has A d B e =
    decide_is (Fact-discrete ℕ_discrete (has B e) (has A d)) (eqb A B && eqb d e)
    (λ (p : has B e ≡ has A d). let q : A ≡ B = cc in let r : d ≡ e = cc in rw (eq-eqb A B q, eq-eqb d e r))
    (λ h. let b = both_true (eqb A B) (eqb d e) h in ap₂ has (sym (eqb-true A B b.0)) (sym (eqb-true d e b.1)))

same_edge : (r d e s f g : ℕ) → same (edge s f g) (edge r d e) ≡ (eqb r s && (eqb d f && eqb e g))
same_edge r d e s f g =
    decide_is (Fact-discrete ℕ_discrete (edge s f g) (edge r d e)) (eqb r s && (eqb d f && eqb e g))
    (λ (p : edge s f g ≡ edge r d e). let q : r ≡ s = cc in let t : d ≡ f = cc in let u : e ≡ g = cc in rw (eq-eqb r s q, eq-eqb d f t, eq-eqb e g u))
    (λ h.
    let b = both_true (eqb r s) (eqb d f && eqb e g) h in
    let c = both_true (eqb d f) (eqb e g) b.1 in
    let q = eqb-true r s b.0 in
    let t = eqb-true d f c.0 in
    let u = eqb-true e g c.1 in
    cc)

-- one fact more
places_more : (fs : List Fact) (f : Fact) (a : ℕ) → places_in (fs ++ (f ∷ [])) a ≡ places_in fs a ++ places_of a f
places_more [] f a = append-nil (places_of a f)
places_more (h ∷ fs) f a = ap (λ (l : List ℕ). places_of a h ++ l) (places_more fs f a) ∙ sym (append_assoc (places_of a h) (places_in fs a) (places_of a f))

module _ (n : ℕ) (fs : List Fact) where
  -- what is said among more facts: as before, and what the last says
  said_more : (f h : Fact) (b : Bool) → same h f ≡ b → is_said (fs ++ (f ∷ [])) h ≡ (is_said fs h || b)
  said_more f h b e = any_more (same h) fs f ∙ ap (λ (t : Bool). is_said fs h || t) e

  said_still : (f h : Fact) → (h ≡ f → false ≡ true) → is_said (fs ++ (f ∷ [])) h ≡ is_said fs h
  said_still f h d = said_more f h false (apart h f d) ∙ or-false (is_said fs h)

  abbrev world : (ℕ → ℕ → Bool) → (ℕ → ℕ → ℕ → Bool) → World
  world sets pairs = record { size = n; atoms = sets; roles = pairs }

  world_place : (a d : ℕ) → (interp_of n fs).world ≡ (interp_of n (fs ++ (places a d ∷ []))).world
  world_place a d =
      ap₂ world
      (fun_ext (λ B. fun_ext (λ e. sym (said_still (places a d) (has B e) (λ (p : has B e ≡ places a d). cc)))))
      (fun_ext (λ s. fun_ext (λ f. fun_ext (λ g. sym (said_still (places a d) (edge s f g) (λ (p : edge s f g ≡ places a d). cc))))))

  world_atom : (A d : ℕ) → with_atom (interp_of n fs).world A d ≡ (interp_of n (fs ++ (has A d ∷ []))).world
  world_atom A d =
      ap₂ world
      (fun_ext (λ B. fun_ext (λ e. sym (said_more (has A d) (has B e) (eqb A B && eqb d e) (same_has A d B e)))))
      (fun_ext (λ s. fun_ext (λ f. fun_ext (λ g. sym (said_still (has A d) (edge s f g) (λ (p : edge s f g ≡ has A d). cc))))))

  world_edge : (r d e : ℕ) → with_edge (interp_of n fs).world r d e ≡ (interp_of n (fs ++ (edge r d e ∷ []))).world
  world_edge r d e =
      ap₂ world
      (fun_ext (λ B. fun_ext (λ f. sym (said_still (edge r d e) (has B f) (λ (p : has B f ≡ edge r d e). cc)))))
      (fun_ext (λ s. fun_ext (λ f. fun_ext (λ g. sym (said_more (edge r d e) (edge s f g) (eqb r s && (eqb d f && eqb e g)) (same_edge r d e s f g))))))

-- a model whose places are each one of n elements has such places behind each line
module _ (n : ℕ) (m new : Model) (r : Bool) (h : Inside n m.places) where
  pub place_inside : (a d : ℕ) → d < n → PlaceSet m new a d r → Inside n new.places
  place_inside a d low s b = ap (every (λ e. ltb e n)) (s.seats b) ∙ inside_put n d (r && eqb b a) (seats_of m.places b) low (h b)

  pub atom_inside : (A d : ℕ) → AtomSet m new A d r → Inside n new.places
  atom_inside A d s b = ap (every (λ e. ltb e n)) (s.seats b) ∙ h b

  pub edge_inside : (q d e : ℕ) → EdgeSet m new q d e r → Inside n new.places
  edge_inside q d e s b = ap (every (λ f. ltb f n)) (s.seats b) ∙ h b

module _ (n : ℕ) (fs : List Fact) (m : Model) (t : Tells n fs m) where
  module _ (new : Model) (r : Bool) where
    -- `has A d`: the answer says whether it repeats nothing, and the model tells it besides
    pub atom_answer : (A d : ℕ) → AtomSet m new A d r → r ≡ not (repeats fs (has A d))
    atom_answer A d s = s.answer ∙ ap (λ (W : World). not (W.atoms A d)) t.world

    pub atom_told : (A d : ℕ) → AtomSet m new A d r → Tells n (fs ++ (has A d ∷ [])) new
    atom_told A d s = record {
      world = s.world ∙ ap (λ (W : World). with_atom W A d) t.world ∙ world_atom n fs A d;
      seats = λ a. s.seats a ∙ t.seats a ∙ sym (places_more fs (has A d) a ∙ append-nil (places_in fs a));
      inside = atom_inside n m new r t.inside A d s;
    }

    -- `edge r d e`, likewise
    pub edge_answer : (q d e : ℕ) → EdgeSet m new q d e r → r ≡ not (repeats fs (edge q d e))
    edge_answer q d e s = s.answer ∙ ap (λ (W : World). not (W.roles q d e)) t.world

    pub edge_told : (q d e : ℕ) → EdgeSet m new q d e r → Tells n (fs ++ (edge q d e ∷ [])) new
    edge_told q d e s = record {
      world = s.world ∙ ap (λ (W : World). with_edge W q d e) t.world ∙ world_edge n fs q d e;
      seats = λ a. s.seats a ∙ t.seats a ∙ sym (places_more fs (edge q d e) a ∙ append-nil (places_in fs a));
      inside = edge_inside n m new r t.inside q d e s;
    }

    -- `name a d`, likewise where the name was free
    pub place_answer : (a d : ℕ) → PlaceSet m new a d r → r ≡ not (repeats fs (places a d))
    place_answer a d s = s.answer ∙ ap (λ (l : List ℕ). not (not (is_empty l))) (t.seats a)

    pub place_told : (a d : ℕ) → d < n → PlaceSet m new a d r → r ≡ true → Tells n (fs ++ (places a d ∷ [])) new
    place_told a d low s free = record {
      world = s.world ∙ t.world ∙ world_place n fs a d;
      seats = λ b.
          s.seats b ∙ ap (λ (q : Bool). cond (q && eqb b a) (d ∷ []) (seats_of m.places b)) free ∙ put b (ℕ_discrete b a) ∙ sym (places_more fs (places a d) b);
      inside = place_inside n m new r t.inside a d low s;
    }
      where
        empty : (l : List ℕ) → not (not (is_empty l)) ≡ true → l ≡ []
        empty [] h = refl
        empty (x ∷ l) h = absurd (false≢true h)

        put : (b : ℕ) → Dec (b ≡ a) → cond (eqb b a) (d ∷ []) (seats_of m.places b) ≡ places_in fs b ++ cond (eqb b a) (d ∷ []) []
        put b (yes e) = rw (eq-eqb b a e, e, empty (places_in fs a) (sym (place_answer a d s) ∙ free))
        put b (no e) = rw (ne_eqb b a e) (t.seats b ∙ sym (append-nil (places_in fs b)))
