-- What is fetched is what was stored: the records of a goal stand from its base on, and those before it stay as they were. What is fetched depends on
-- the records up to its end alone. Assumes nothing.
use Rattle.std.proofs.Common.{ℕ, ◌+◌, ◌≤◌, ◌≡◌, sym, ap, ◌∙◌, List, ◌++◌, take, drop, length, arith}
use Rattle.std.proofs.lemmas.Grind.{common_steps}
use Rattle.std.proofs.lemmas.List.{drop-take, take-take}
use Rattle.alc.specs.declared.Claim.{Claim}
use Rattle.shelf.specs.Stored.{blanks, stored, fetched}

pub stored_below : (l : List Claim) (b : ℕ) (cs : List Claim) (n : ℕ) → b ≤ length l → take b (stored l b cs n) ≡ take b l
stored_below l b cs n h = grind (arith, common_steps)

pub fetched_same : (l m : List Claim) (k b n : ℕ) → b + n ≤ k → take k m ≡ take k l → fetched m b n ≡ fetched l b n
fetched_same l m k b n h e = ap (λ (r : List Claim). r ++ drop n blanks) (cut m ∙ ap (λ (r : List Claim). drop b (take (b + n) r)) e ∙ sym (cut l))
  where
    cut : (r : List Claim) → take n (drop b r) ≡ drop b (take (b + n) (take k r))
    cut r = sym (ap (drop b) (take-take (b + n) k r h) ∙ drop-take b n r)

pub fetched_stored : (l : List Claim) (b : ℕ) (cs : List Claim) (n : ℕ) → n ≤ length cs → b + n ≤ length l → take n (fetched (stored l b cs n) b n) ≡ take n cs
fetched_stored l b cs n has fits = grind (arith, common_steps)
