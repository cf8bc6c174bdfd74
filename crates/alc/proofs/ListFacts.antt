-- Facts of lists, and of lists of claims, once for all rules: what holds of every claim of a goal holds of the claims needed, which stand in it, and
-- of what is left of it, since dropping only takes out.
-- Assumes nothing.
use Prim.Native.Nat.{ℕ, zero, suc, ◌<◌}
use native.Mathlib.Nat.{not-suc-le-zero, le_of_suc-le-suc}
use native.Mathlib.Decide.{ℕ_discrete}
use mathlib.Core.Bool.{Bool, true, false, cond, ◌||◌, decide_iff, false≢true, or-false, or_assoc}
use mathlib.Core.List.{List, [], ◌∷◌, ◌++◌}
use mathlib.Core.Logic.{⊎_elim}
use lib.ListN.{length, get_or, replicate}
use mathlib.Core.Path.{◌≡◌, refl, sym, ap, subst, ◌∙◌}
use Rattle.alc.specs.Lists.{All, every, any}
use Rattle.alc.specs.Claims.{Sided, Sided-discrete, Claim-discrete, Goal, same, has, without}
use Rattle.alc.specs.Goals.{rest}
use Rattle.alc.proofs.Logic.{both_true, one_true, both_false}

module _ {A : Type 0} where
  pub All-map : {P Q : A → Type 0} → ((x : A) → P x → Q x) → (l : List A) → All P l → All Q l
  All-map f [] h = tt
  All-map f (x ∷ l) h = (f x h.0, All-map f l h.1)

  pub All-zip : {P Q R : A → Type 0} → ((x : A) → P x → Q x → R x) → (l : List A) → All P l → All Q l → All R l
  All-zip f [] h k = tt
  All-zip f (x ∷ l) h k = (f x h.0 k.0, All-zip f l h.1 k.1)

  pub every-All : (p : A → Bool) (l : List A) → every p l ≡ true → All (λ x. p x ≡ true) l
  every-All p [] h = tt
  every-All p (x ∷ l) h = let b = both_true (p x) (every p l) h in (b.0, every-All p l b.1)

  pub All-every : (p : A → Bool) (l : List A) → All (λ x. p x ≡ true) l → every p l ≡ true
  All-every p [] h = refl
  All-every p (x ∷ l) h = rw h.0 (All-every p l h.1)

  pub any-All : (p : A → Bool) (l : List A) → any p l ≡ false → All (λ x. p x ≡ false) l
  any-All p [] h = tt
  any-All p (x ∷ l) h = let b = both_false (p x) (any p l) h in (b.0, any-All p l b.1)

  pub All-none : (p : A → Bool) (l : List A) → All (λ x. p x ≡ false) l → any p l ≡ false
  All-none p [] h = refl
  All-none p (x ∷ l) h = rw h.0 (All-none p l h.1)

module _ {A : Type 0} where
  -- one element more
  pub any_more : (p : A → Bool) (l : List A) (x : A) → any p (l ++ (x ∷ [])) ≡ (any p l || p x)
  any_more p [] x = or-false (p x)
  any_more p (y ∷ l) x = ap (λ b. p y || b) (any_more p l x) ∙ sym (or_assoc (p y) (any p l) (p x))

  -- at each number
  pub All-at : (d : A) (P : A → Type 0) (l : List A) → All P l → (i : ℕ) → i < length l → P (get_or l i d)
  All-at d P [] h i k = absurd (not-suc-le-zero k)
  All-at d P (x ∷ l) h zero k = h.0
  All-at d P (x ∷ l) h (suc i) k = All-at d P l h.1 i (le_of_suc-le-suc k)

-- in an array of zeros each number is 0
pub zeros : (k i : ℕ) → ◌≡◌ {A = ℕ} (get_or (replicate k 0) i 0) 0
zeros zero i = refl
zeros (suc k) zero = refl
zeros (suc k) (suc i) = zeros k i

module _ {A : Type 0} (P : A → Type 0) where
  pub All-append : (l m : List A) → All P l → All P m → All P (l ++ m)
  All-append [] m h k = k
  All-append (x ∷ l) m h k = (h.0, All-append l m h.1 k)

  pub All-left : (l m : List A) → All P (l ++ m) → All P l
  All-left [] m h = tt
  All-left (x ∷ l) m h = (h.0, All-left l m h.1)

  pub All-right : (l m : List A) → All P (l ++ m) → All P m
  All-right [] m h = h
  All-right (x ∷ l) m h = All-right l m h.1

pub same_eq : (s t : Sided) → same s t ≡ true → s ≡ t
same_eq s t e = (decide_iff (Sided-discrete (Claim-discrete ℕ_discrete) s t)).0 e

module _ (P : Sided → Type 0) where
  pub All-has : (g : Goal) (s : Sided) → has g s ≡ true → All P g → P s
  All-has [] s e h = absurd (false≢true e)
  All-has (t ∷ g) s e h = ⊎_elim (λ u. subst P (sym (same_eq s t u)) h.0) (λ u. All-has g s u h.1) (one_true (same s t) (has g s) e)

  pub All-needs : (g : Goal) (needs : List Sided) → All (λ s. has g s ≡ true) needs → All P g → All P needs
  All-needs g needs e h = All-map (λ s u. All-has g s u h) needs e

  cond-All : (b : Bool) (g h : Goal) → All P g → All P h → All P (cond b g h)
  cond-All true g h k l = k
  cond-All false g h k l = l

  pub All-without : (s : Sided) (g : Goal) → All P g → All P (without s g)
  All-without s [] h = tt
  All-without s (t ∷ g) h = cond-All (same s t) g (t ∷ without s g) h.1 (h.0, All-without s g h.1)

  pub All-rest : (b : Bool) (needs : List Sided) (g : Goal) → All P g → All P (rest b needs g)
  All-rest false needs g h = h
  All-rest true [] g h = h
  All-rest true (s ∷ needs) g h = All-without s g h
