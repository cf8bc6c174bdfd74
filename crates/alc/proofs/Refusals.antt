-- The code's refusals: each has one number of the list, and none has 0; one that is handed on stays as it is, and one that is handed on with a line
-- stays the refusal it was.
-- Assumes nothing.
use Rattle.std.proofs.Common.{ℕ, ◌-◌, get_or, [], ◌∷◌, Result, Ok, Err, ◌≡◌, refl, sym, ap, ap₂, subst, ◌∙◌, true≢false}
use native.Mathlib.Omega.{arith}
use Rattle.std.specs.Result.{IfOk, IsErrAnd, MatchResult, is_ok}
use Rattle.alc.specs.Shown.{number_of, row_number}
use Rattle.alc.specs.declared.Refused.{Refused}
use Rattle.alc.specs.declared.refusal.Refusal.{Refusal}
use Rattle.alc.specs.declared.refusal.Refusal.TheVariants.{TooLong, Malformed, OutOfRange, Repeated, TooMany, OtherKind, Missing, NotNew, NoGoal, GoalFull, TooManyWait, Unfinished, NotFalsified, RoomTooSmall}

-- the refusal of a number
refusal_at : ℕ → Refusal
refusal_at n = get_or (TooLong ∷ Malformed ∷ OutOfRange ∷ Repeated ∷ TooMany ∷ OtherKind ∷ Missing ∷ NotNew ∷ NoGoal ∷ GoalFull ∷ TooManyWait ∷ Unfinished ∷ NotFalsified ∷ RoomTooSmall ∷ []) (n - 1) TooLong

back : (k : Refusal) → refusal_at (number_of k) ≡ k
unfolding refusal_at
back TooLong = refl
back Malformed = refl
back OutOfRange = refl
back Repeated = refl
back TooMany = refl
back OtherKind = refl
back Missing = refl
back NotNew = refl
back NoGoal = refl
back GoalFull = refl
back TooManyWait = refl
back Unfinished = refl
back NotFalsified = refl
back RoomTooSmall = refl

pub number_some : (k : Refusal) → number_of k ≡ 0 → ⊥
number_some TooLong e = omega arith
number_some Malformed e = omega arith
number_some OutOfRange e = omega arith
number_some Repeated e = omega arith
number_some TooMany e = omega arith
number_some OtherKind e = omega arith
number_some Missing e = omega arith
number_some NotNew e = omega arith
number_some NoGoal e = omega arith
number_some GoalFull e = omega arith
number_some TooManyWait e = omega arith
number_some Unfinished e = omega arith
number_some NotFalsified e = omega arith
number_some RoomTooSmall e = omega arith

pub number_once : (j k : Refusal) → number_of j ≡ number_of k → j ≡ k
number_once j k e = sym (back j) ∙ ap refusal_at e ∙ back k

pub refused_once : (e f : Refused) → number_of e.refusal ≡ number_of f.refusal → e.line ≡ f.line → e ≡ f
refused_once e f k n = ap₂ (λ (r : Refusal) (m : ℕ). record { refusal = r; line = m }) (number_once e.refusal f.refusal k) n

-- an error that `?` hands on is the one that was given
pub handed_on : {A E : Type 0} (r : Result A E) (e : E) → IsErrAnd r (λ f. f ≡ e) → r ≡ Err e
handed_on (Ok x) e h = absurd h
handed_on (Err f) e h = ap Err h

-- what is a value passes every row, and what is said of a value holds of it
pub passed : {A : Type 0} (Q : A → Type 0) (r : Result A Refusal) (x : A) (k : ℕ) → r ≡ Ok x → row_number r ≡ k → IfOk r Q → (0 ≡ k) × Q x
passed Q r x k q n h = (subst (λ z. row_number z ≡ k) q n, subst (λ z. IfOk z Q) q h)

ok : {A E : Type 0} {x y : A} → ◌≡◌ {A = Result A E} (Ok x) (Ok y) → x ≡ y
ok e = cc

module _ {A B : Type 0} (P : Refusal → B → Type 0) (r : Result A Refusal) (s : Result A B) (m : MatchResult r (λ y. s ≡ Ok y) (λ e. IsErrAnd s (P e))) where
  -- what `map_err` hands on as a value was one
  pub value : (x : A) → s ≡ Ok x → r ≡ Ok x
  value x q = go r m
    where
      go : (z : Result A Refusal) → MatchResult z (λ y. s ≡ Ok y) (λ e. IsErrAnd s (P e)) → z ≡ Ok x
      go (Ok y) n = ap Ok (ok (sym n ∙ q))
      go (Err e) n = absurd (subst (λ z. IsErrAnd z (P e)) q n)

  -- it passes every row, and what is said of a value holds of it
  pub passing : (Q : A → Type 0) (x : A) (k : ℕ) → s ≡ Ok x → row_number r ≡ k → IfOk r Q → (0 ≡ k) × Q x
  passing Q x k q n h = passed Q r x k (value x q) n h

  -- an error that `map_err` hands on was made of a refusal
  pub made_of : (g : Refusal → B) (f : B) → s ≡ Err f → ((e : Refusal) → P e f → f ≡ g e) → (e : Refusal) × (r ≡ Err e) × (f ≡ g e)
  made_of g f q h = go r m
    where
      go : (z : Result A Refusal) → MatchResult z (λ y. s ≡ Ok y) (λ e. IsErrAnd s (P e)) → (e : Refusal) × (z ≡ Err e) × (f ≡ g e)
      go (Ok y) n = absurd (true≢false (ap is_ok (sym n ∙ q)))
      go (Err e) n = (e, refl, h e (subst (λ z. IsErrAnd z (P e)) q n))
