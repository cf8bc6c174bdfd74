-- What stands behind a place is moved up by one: then all that is left is what stood before the place and what stood behind it. Assumes nothing.
use Rattle.std.proofs.Common.{zero, suc, refl, [], ◌∷◌, ℕ, ◌+◌, ◌-◌, ◌≤◌, ◌<◌, ◌≡◌, List, ◌++◌, take, drop, set, length, length-append, ap, ◌∙◌, arith}
use Rattle.std.specs.List.{copy_within}
use Rattle.std.proofs.lemmas.Grind.{common_steps}
use Rattle.std.proofs.lemmas.List.{drop-take, length-take-le}
use Rattle.std.proofs.Math.Seq.{take-set-lt, set-append_seam}
use Rattle.std.proofs.lemmas.List.Edits.{take-paste}

module _ {A : Type 0} (xs : List A) (at k : ℕ) where
  moved : at + 1 + k ≤ length xs → take (at + k) (copy_within xs (at + 1) (at + 1 + k) at) ≡ take at (take (at + 1 + k) xs) ++ drop (at + 1) (take (at + 1 + k) xs)
  moved h = grind (arith, common_steps, take-paste, drop-take)

module _ {A : Type 0} (xs : List A) (n at : ℕ) (h : at < n) (few : n ≤ length xs) where
  pub cut_within : take (n - 1) (copy_within xs (at + 1) n at) ≡ take at (take n xs) ++ drop (at + 1) (take n xs)
  cut_within =
      let e : at + 1 + (n - (at + 1)) ≡ n = omega arith in
      let f : at + (n - (at + 1)) ≡ n - 1 = omega arith in
      let m = moved xs at (n - (at + 1)) (omega arith) in
      cc

  pub cut_count : n - 1 ≡ length (take at (take n xs) ++ drop (at + 1) (take n xs))
  cut_count = grind (arith, common_steps)

-- as many as the first n are, at most n, are the first n
pub cut_none : {A : Type 0} (n : ℕ) (xs : List A) → take (length (take n xs)) xs ≡ take n xs
cut_none zero xs = refl
cut_none (suc n) [] = refl
cut_none (suc n) (x ∷ xs) = ap (λ l. x ∷ l) (cut_none n xs)

-- where the first n are some and one more, the first n with another in the last place are those and that one
pub last_other : {A : Type 0} (n : ℕ) (xs l : List A) (c d : A) → 0 < n → n ≤ length xs → take n xs ≡ l ++ (c ∷ []) → take n (set xs (n - 1) d) ≡ l ++ (d ∷ [])
last_other n xs l c d some few e =
    let m : length l + 1 ≡ n = omega (arith, length-take-le n xs few, ap length e, length-append l (c ∷ [])) in
    let k : n - 1 ≡ length l = omega arith in
    take-set-lt n xs (n - 1) d (omega arith) ∙ rw (e, k) (set-append_seam l c [] d)
