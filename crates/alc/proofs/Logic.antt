-- Facts of Bool, and of `some_below` and `every_below`: each test goes through the numbers one by one, so it is passed exactly where a number shows it.
-- Assumes nothing.
use Prim.Native.Nat.{ℕ, zero, suc, ◌<◌}
use native.Mathlib.Omega.{arith}
use native.Mathlib.Nat.{not-suc-le-zero}
use native.Mathlib.Decide.{ℕ_discrete}
use mathlib.Core.Bool.{Bool, true, false, not, ◌&&◌, ◌||◌, true≢false, false≢true}
use mathlib.Core.Logic.{◌⊎◌, inl, inr, ⊎_elim}
use mathlib.Core.Path.{◌≡◌, refl, sym, ◌∙◌}
use Rattle.alc.specs.Meaning.{some_below, every_below}
pub use Rattle.lines.proofs.Laws.{and_left, and_right, is_false, bool_by}

pub both_true : (a b : Bool) → (a && b) ≡ true → (a ≡ true) × (b ≡ true)
both_true true b e = (refl, e)
both_true false b e = absurd (false≢true e)

pub one_false : (a b : Bool) → (a && b) ≡ false → (a ≡ false) ⊎ (b ≡ false)
one_false true b e = inr e
one_false false b e = inl refl

pub one_true : (a b : Bool) → (a || b) ≡ true → (a ≡ true) ⊎ (b ≡ true)
one_true true b e = inl refl
one_true false b e = inr e

pub both_false : (a b : Bool) → (a || b) ≡ false → (a ≡ false) × (b ≡ false)
both_false true b e = absurd (true≢false e)
both_false false b e = (refl, e)

-- "if a then b", as `all` and `sub` write it
pub if_true : (a b : Bool) → (not a || b) ≡ true → a ≡ true → b ≡ true
if_true true b e h = e
if_true false b e h = absurd (false≢true h)

pub if_false : (a b : Bool) → (not a || b) ≡ false → (a ≡ true) × (b ≡ false)
if_false true b e = (refl, e)
if_false false b e = absurd (true≢false e)

pub not_or : (a b : Bool) → not (a || b) ≡ (not a && not b)
not_or true b = refl
not_or false b = refl

pub clash : (b : Bool) → b ≡ true → b ≡ false → ⊥
clash b t f = true≢false (sym t ∙ f)

pub below_suc : (n e : ℕ) → e < suc n → (e ≡ n) ⊎ (e < n)
below_suc n e l = go (ℕ_discrete e n)
  where
    go : Dec (e ≡ n) → (e ≡ n) ⊎ (e < n)
    go (yes h) = inl h
    go (no h) = inr (omega arith)

module _ (p : ℕ → Bool) where
  pub some_true : (n : ℕ) → some_below n p ≡ true → (e : ℕ) × (e < n) × (p e ≡ true)
  some_true zero h = absurd (false≢true h)
  some_true (suc n) h = ⊎_elim (λ t. (n, omega arith, t)) (λ t. let w = some_true n t in (w.0, omega (arith, w.1), w.2)) (one_true (p n) (some_below n p) h)

  pub some_false : (n : ℕ) → some_below n p ≡ false → (e : ℕ) → e < n → p e ≡ false
  some_false zero h e l = absurd (not-suc-le-zero l)
  some_false (suc n) h e l = let b = both_false (p n) (some_below n p) h in ⊎_elim (λ t. rw t b.0) (some_false n b.1 e) (below_suc n e l)

  pub every_true : (n : ℕ) → every_below n p ≡ true → (e : ℕ) → e < n → p e ≡ true
  every_true zero h e l = absurd (not-suc-le-zero l)
  every_true (suc n) h e l = let b = both_true (p n) (every_below n p) h in ⊎_elim (λ t. rw t b.0) (every_true n b.1 e) (below_suc n e l)

  pub every_false : (n : ℕ) → every_below n p ≡ false → (e : ℕ) × (e < n) × (p e ≡ false)
  every_false zero h = absurd (true≢false h)
  every_false (suc n) h = ⊎_elim (λ t. (n, omega arith, t)) (λ t. let w = every_false n t in (w.0, omega (arith, w.1), w.2)) (one_false (p n) (every_below n p) h)
