-- The last arm of a `match` on a number: what none of the others took. Assumes nothing.
use mathlib.Core.Bool.{Bool, true, false, ◌||◌}
use mathlib.Core.List.{List, [], ◌∷◌}
use mathlib.Core.Logic.{inl, inr}
use lib.Dec.{eqb, ltb}
use borrow.Author.Tests.{ne_eqb, eqb-true, le-ltb}
use types.Run.{OneOf}
use Prim.Native.Nat.{ℕ, ◌≤◌, ◌<◌}
use mathlib.Core.Path.{◌≡◌, refl, sym, ◌∙◌}
use Rattle.alc.specs.Lists.{any, elem}
use Rattle.alc.specs.Meaning.{every_below}
use Rattle.alc.proofs.Logic.{every_true}

-- x is none of the keys of these arms, the last arm first
abbrev pub Others : List (List ℕ) → ℕ → Type 0
Others [] x = Unit {0}
Others (ks ∷ kss) x = Others kss x × (OneOf ks x → ⊥)

no_key : (ks : List ℕ) (x : ℕ) → (OneOf ks x → ⊥) → elem x ks ≡ false
no_key [] x o = refl
no_key (k ∷ []) x o = rw (ne_eqb x k o)
no_key (k ∷ j ∷ ks) x o = rw (ne_eqb x k (λ e. o (inl e))) (no_key (j ∷ ks) x (λ e. o (inr e)))

none_of : (kss : List (List ℕ)) (x : ℕ) → Others kss x → any (elem x) kss ≡ false
none_of [] x o = refl
none_of (ks ∷ kss) x o = rw (no_key ks x o.1) (none_of kss x o.0)

-- so what is true of all numbers below n but those keys is true of x
pub others : (kss : List (List ℕ)) (p : ℕ → Bool) (n : ℕ) → every_below n (λ x. any (elem x) kss || p x) ≡ true → (x : ℕ) → x < n → Others kss x → p x ≡ true
others kss p n t x h o = sym (rw (none_of kss x o)) ∙ every_true (λ y. any (elem y) kss || p y) n t x h

-- of the numbers from a on, before b, only one is left
pub last : (kss : List (List ℕ)) (a b k : ℕ) → every_below b (λ x. any (elem x) kss || (ltb x a || eqb x k)) ≡ true → (x : ℕ) → a ≤ x → x < b → Others kss x → x ≡ k
last kss a b k t x h g o = eqb-true x k (sym (rw (le-ltb x a h)) ∙ others kss (λ y. ltb y a || eqb y k) b t x g o)
