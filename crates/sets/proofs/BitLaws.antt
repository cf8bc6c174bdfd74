-- The bits of what the machine's operations give: `&`, `|` and `^` work digit by digit, a shift moves the digits, and a number that is not 0
-- has a digit that is not 0.
-- Assumes nothing.
use Prim.Native.Nat.{ℕ, zero, suc, ◌+◌, ◌-◌, ◌*◌, ◌/◌, ◌%◌, ◌^◌, ◌≤◌, ◌<◌}
use native.Mathlib.Omega.{arith}
use native.Mathlib.Nat.{div-eq_of_lt, zero-div, mul-mod_left, pow-suc, one-mul, div-lt_iff_lt-mul, lt_of_lt_of_le, mul_comm}
use native.Mathlib.Decide.{ℕ_discrete}
use mathlib.Core.Bool.{Bool, true, false, not, ◌&&◌, ◌||◌, false≢true, and-true, and-false, or-false}
use mathlib.Core.Logic.{◌⊎◌, inl, inr}
use mathlib.Core.Path.{◌≡◌, refl, sym, ap, ◌∙◌, fun_ext}
use lib.Dec.{eqb, ltb}
use lib.Pow.{pow_pos, pow_mono, pow-lt, pow-add, shl_exact, shl-shr, high, ones_split, ones_lt}
use lib.Bits.{bit_and, bit_or, bit_xor, and_shr, or_shr, xor_shr, and_mod, or_mod, xor_mod, and_lt}
use borrow.Author.Tests.{ltb-true, ltb-false, lt-ltb, le-ltb, eq-eqb, ne_eqb, eqb-false}
use Rattle.sets.specs.Bit.{bit}
use Rattle.alc.specs.Meaning.{some_below}

abbrev differs : Bool → Bool → Bool
differs true b = not b
differs false b = b

digit : (n : ℕ) → (n % 2 ≡ 0) ⊎ (n % 2 ≡ 1)
digit n = go (ℕ_discrete (n % 2) 0)
  where
    go : Dec (n % 2 ≡ 0) → (n % 2 ≡ 0) ⊎ (n % 2 ≡ 1)
    go (yes h) = inl h
    go (no h) = inr (omega arith)

-- an operation that works digit by digit
module _ (op : ℕ → ℕ → ℕ) (f : Bool → Bool → Bool)
    (shr : (a b k : ℕ) → op a b / 2 ^ k ≡ op (a / 2 ^ k) (b / 2 ^ k))
    (rem : (a b k : ℕ) → op a b % 2 ^ k ≡ op (a % 2 ^ k) (b % 2 ^ k))
    (h00 : eqb (op 0 0) 1 ≡ f false false) (h01 : eqb (op 0 1) 1 ≡ f false true)
    (h10 : eqb (op 1 0) 1 ≡ f true false) (h11 : eqb (op 1 1) 1 ≡ f true true) where
  at_digit : (x y : ℕ) → (x ≡ 0) ⊎ (x ≡ 1) → (y ≡ 0) ⊎ (y ≡ 1) → eqb (op x y) 1 ≡ f (eqb x 1) (eqb y 1)
  at_digit x y (inl p) (inl q) = rw (p, q) h00
  at_digit x y (inl p) (inr q) = rw (p, q) h01
  at_digit x y (inr p) (inl q) = rw (p, q) h10
  at_digit x y (inr p) (inr q) = rw (p, q) h11

  bit_op : (a b d : ℕ) → bit (op a b) d ≡ f (bit a d) (bit b d)
  unfolding bit
  bit_op a b d =
      ap (λ (n : ℕ). eqb (n % 2) 1) (shr a b d)
      ∙ ap (λ (n : ℕ). eqb n 1) (rem (a / 2 ^ d) (b / 2 ^ d) 1)
      ∙ at_digit (a / 2 ^ d % 2) (b / 2 ^ d % 2) (digit (a / 2 ^ d)) (digit (b / 2 ^ d))

pub bit_and_lem : (a b d : ℕ) → bit (bit_and a b) d ≡ (bit a d && bit b d)
bit_and_lem = bit_op bit_and ◌&&◌ and_shr and_mod refl refl refl refl

pub bit_or_lem : (a b d : ℕ) → bit (bit_or a b) d ≡ (bit a d || bit b d)
bit_or_lem = bit_op bit_or ◌||◌ or_shr or_mod refl refl refl refl

bit_xor_lem : (a b d : ℕ) → bit (bit_xor a b) d ≡ differs (bit a d) (bit b d)
bit_xor_lem = bit_op bit_xor differs xor_shr xor_mod refl refl refl refl

-- what is in a and not in b
minus : (a b : Bool) → (a && differs a b) ≡ (a && not b)
minus true b = refl
minus false b = refl

pub bit_minus : (a b d : ℕ) → bit (bit_and a (bit_xor a b)) d ≡ (bit a d && not (bit b d))
bit_minus a b d = bit_and_lem a (bit_xor a b) d ∙ ap (λ (t : Bool). bit a d && t) (bit_xor_lem a b d) ∙ minus (bit a d) (bit b d)

-- the empty set
pub bit_zero : (d : ℕ) → bit 0 d ≡ false
unfolding bit
bit_zero d = rw (zero-div (2 ^ d))

-- a number below 2 ^ n has no bit at n or above
bit_high : (x n d : ℕ) → x < 2 ^ n → n ≤ d → bit x d ≡ false
unfolding bit
bit_high x n d h l = rw (div-eq_of_lt (lt_of_lt_of_le h (pow_mono l)))

-- all ones below n
odd : (k : ℕ) → (2 ^ suc k - 1) % 2 ≡ 1
odd k = rw (pow-suc 2 k) (omega (arith, pow_pos k))

ones_low : (k d : ℕ) → bit (2 ^ (suc k + d) - 1) d ≡ true
unfolding bit
ones_low k d = rw (ones_split (suc k) d, high (2 ^ suc k - 1) d (ones_lt d), odd k)

bit_ones : (n d : ℕ) → bit (2 ^ n - 1) d ≡ ltb d n
bit_ones n d = go (ltb d n) refl
  where
    low : (k : ℕ) → suc k + d ≡ n → bit (2 ^ n - 1) d ≡ true
    low k e = rw (← e) (ones_low k d)

    go : (b : Bool) → ltb d n ≡ b → bit (2 ^ n - 1) d ≡ ltb d n
    go true e = low (n - suc d) (omega (arith, ltb-true d n e)) ∙ sym e
    go false e = bit_high (2 ^ n - 1) n d (ones_lt n) (ltb-false d n e) ∙ sym e

-- the machine's n low ones: all ones, shifted down
pub bit_full : (n d : ℕ) → n ≤ 32 → bit (0xffff_ffff / 2 ^ (32 - n)) d ≡ ltb d n
bit_full n d h = ap (λ (x : ℕ). bit (x / 2 ^ (32 - n)) d) split ∙ ap (λ (x : ℕ). bit x d) (high (2 ^ n - 1) (32 - n) (ones_lt (32 - n))) ∙ bit_ones n d
  where
    split : 0xffff_ffff ≡ (2 ^ n - 1) * 2 ^ (32 - n) + (2 ^ (32 - n) - 1)
    split = ap (λ (k : ℕ). 2 ^ k - 1) sum ∙ ones_split n (32 - n)
      where
        sum : 32 ≡ n + (32 - n)
        sum = omega arith

-- one bit
one_same : (d : ℕ) → bit (1 * 2 ^ d) d ≡ true
unfolding bit
one_same d = rw (shl-shr 1 d)

one_below : (k e : ℕ) → bit (1 * 2 ^ (suc k + e)) e ≡ false
unfolding bit
one_below k e = rw (one-mul (2 ^ (suc k + e)), pow-add 2 (suc k) e, shl-shr (2 ^ suc k) e, pow-suc 2 k, mul-mod_left (2 ^ k) 2)

one_at : (d e : ℕ) → bit (1 * 2 ^ d) e ≡ eqb d e
one_at d e = go (ℕ_discrete d e) (ltb e d) refl
  where
    low : (k : ℕ) → suc k + e ≡ d → bit (1 * 2 ^ d) e ≡ false
    low k h = rw (← h) (one_below k e)

    up : suc d ≤ e → bit (1 * 2 ^ d) e ≡ false
    up h = bit_high (1 * 2 ^ d) (suc d) e (rw (one-mul (2 ^ d)) (pow-lt (omega arith))) h

    go : Dec (d ≡ e) → (b : Bool) → ltb e d ≡ b → bit (1 * 2 ^ d) e ≡ eqb d e
    go (yes h) b t = rw (← h) (one_same d ∙ sym (eq-eqb d d refl))
    go (no h) true t = low (d - suc e) (omega (arith, ltb-true e d t)) ∙ sym (ne_eqb d e h)
    go (no h) false t = up (omega (arith, ltb-false e d t)) ∙ sym (ne_eqb d e h)

-- the machine's 1 << d
pub bit_one : (d e : ℕ) → d < 32 → bit (1 * 2 ^ d % 2 ^ 32) e ≡ eqb d e
bit_one d e h = ap (λ (x : ℕ). bit x e) (shl_exact 1 d 32 (omega arith) (omega arith)) ∙ one_at d e

-- a number has a bit just if it is not 0
no_bits : (n x : ℕ) → x ≡ 0 → some_below n (bit x) ≡ false
no_bits zero x h = refl
no_bits (suc n) x h = rw (no_bits n x h, h, bit_zero n)

top_clear : (n x : ℕ) → x < 2 ^ suc n → bit x n ≡ false → x < 2 ^ n
unfolding bit
top_clear n x h b = rw one-mul at ((div-lt_iff_lt-mul {y = 1} (pow_pos n)).0 small)
  where
    two : x / 2 ^ n < 2
    two = (div-lt_iff_lt-mul (pow_pos n)).1 (rw mul_comm (rw (pow-suc 2 n) at h))

    small : x / 2 ^ n < 1
    small = omega (arith, eqb-false (x / 2 ^ n % 2) 1 b, two)

bit_some : (n x : ℕ) → x < 2 ^ n → not (eqb x 0) ≡ some_below n (bit x)
bit_some zero x h = ap not (eq-eqb x 0 (omega arith))
bit_some (suc n) x h = go (bit x n) refl (λ l. bit_some n x l)
  where
    go : (b : Bool) → bit x n ≡ b → (x < 2 ^ n → not (eqb x 0) ≡ some_below n (bit x)) → not (eqb x 0) ≡ (bit x n || some_below n (bit x))
    go true e ih = rw e (ap not (ne_eqb x 0 (λ z. false≢true (sym (bit_zero n) ∙ ap (λ (y : ℕ). bit y n) (sym z) ∙ e))))
    go false e ih = rw e (ih (top_clear n x h e))

-- two sets have an element in common just if their `&` is not 0
pub bit_meets : (n x y : ℕ) → x < 2 ^ n → y < 2 ^ n → not (eqb (bit_and x y) 0) ≡ some_below n (λ d. bit x d && bit y d)
bit_meets n x y h k = bit_some n (bit_and x y) (and_lt n x y h k) ∙ ap (some_below n) (fun_ext (bit_and_lem x y))

-- a set that is made element by element
pub ltb_more : (e d : ℕ) → (e ≡ d → ⊥) → ltb e (d + 1) ≡ ltb e d
ltb_more e d h = go (ltb e d) refl
  where
    go : (t : Bool) → ltb e d ≡ t → ltb e (d + 1) ≡ ltb e d
    go true t = lt-ltb e (d + 1) (omega (arith, ltb-true e d t)) ∙ sym t
    go false t = le-ltb e (d + 1) (omega (arith, ltb-false e d t)) ∙ sym t

module _ (f : ℕ → Bool) (out next d : ℕ) (b : Bool) (now : b ≡ f d)
    (before : (e : ℕ) → bit out e ≡ (ltb e d && f e))
    (marks : (e : ℕ) → bit next e ≡ (bit out e || (b && eqb d e))) where
  pub step : (e : ℕ) → bit next e ≡ (ltb e (d + 1) && f e)
  step e = marks e ∙ ap (λ (t : Bool). t || (b && eqb d e)) (before e) ∙ go (ℕ_discrete d e)
    where
      go : Dec (d ≡ e) → ((ltb e d && f e) || (b && eqb d e)) ≡ (ltb e (d + 1) && f e)
      go (yes h) = rw (le-ltb e d (omega arith), lt-ltb e (d + 1) (omega arith), eq-eqb d e h) (and-true b ∙ now ∙ ap f h)
      go (no h) = rw (ne_eqb d e h, and-false b, ltb_more e d (λ p. h (sym p))) (or-false (ltb e d && f e))
