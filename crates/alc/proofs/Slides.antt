-- The plan of each step does what the slide's rule says, and each rule of the slide is a step whose plan does the same: rule by rule both
-- name the same entry, claims, new name and premises.
-- Assumes nothing.
use Prim.Native.Nat.{ℕ}
use mathlib.Core.Bool.{true, false, not}
use mathlib.Core.List.{List, [], ◌∷◌}
use mathlib.Core.Logic.{◌≢◌, ◌↔◌}
use mathlib.Core.Path.{◌≡◌, refl, sym, subst}
use lib.Dec.{eqb}
use borrow.Author.Tests.{eqb-false, ne_eqb, not-true}
use Rattle.alc.specs.Lists.{All, every, elem}
use Rattle.alc.specs.Table.{Table}
use Rattle.alc.specs.Claims.{Claim, is, sub, link, Goal, names, claim, has}
use Rattle.alc.specs.Rules
use Rattle.alc.specs.Rules.{Step, plan}
use Rattle.alc.specs.Goals.{avoids, are_new, premises}
use Rattle.alc.specs.Slide
use Rattle.alc.specs.Slide.{Rule, Avoids, ◌∉◌}
use Rattle.alc.proofs.Logic.{both_false}
use Rattle.alc.proofs.ListFacts.{All-map, every-All, All-every}
use Rattle.alc.proofs.Sound.{Fits}

-- where no name has to be new, none is not
no_names : (l : List ℕ) → every (λ a. not (elem a [])) l ≡ true
no_names [] = refl
no_names (a ∷ l) = no_names l

none_new : (g : Goal) → are_new [] g ≡ true
none_new [] = refl
none_new (s ∷ g) = rw (no_names (names (claim s))) (none_new g)

-- the test of one new name, and what it says of each claim
module _ (b : ℕ) where
  other : (a : ℕ) → not (elem a (b ∷ [])) ≡ true → a ≢ b
  other a e = eqb-false a b (both_false (eqb a b) false (not-true (elem a (b ∷ [])) e)).0

  tells : (a : ℕ) → a ≢ b → not (elem a (b ∷ [])) ≡ true
  tells a h = rw (ne_eqb a b h)

  avoided : (c : Claim) → All (λ a. not (elem a (b ∷ [])) ≡ true) (names c) → Avoids b c
  avoided (is a i) h = other a h.0
  avoided (sub i j) h = tt
  avoided (link r a c) h = (other a h.0, other c h.1.0)

  avoiding : (c : Claim) → Avoids b c → All (λ a. not (elem a (b ∷ [])) ≡ true) (names c)
  avoiding (is a i) h = (tells a h, tt)
  avoiding (sub i j) h = tt
  avoiding (link r a c) h = (tells a h.0, (tells c h.1, tt))

  pub unnamed : (g : Goal) → are_new (b ∷ []) g ≡ true → b ∉ g
  unnamed g e = All-map (λ s k. avoided (claim s) (every-All (λ a. not (elem a (b ∷ []))) (names (claim s)) k)) g (every-All (avoids (b ∷ [])) g e)

  pub is_new : (g : Goal) → b ∉ g → are_new (b ∷ []) g ≡ true
  is_new g h = All-every (avoids (b ∷ [])) g (All-map (λ s k. All-every (λ a. not (elem a (b ∷ []))) (names (claim s)) (avoiding (claim s) k)) g h)

module _ (T : Table) (g : Goal) where
  rule : (s : Step) → (plan T s).asks ≡ true → All (λ t. has g t ≡ true) (plan T s).needs → are_new (plan T s).news g ≡ true → Rule T g s (premises (plan T s) g)
  unfolding plan
  rule (Rules.id a i) k n w = Slide.id a i k n.0 n.1.0
  rule (Rules.id_sub i j) k n w = Slide.id_sub i j n.0 n.1.0
  rule (Rules.id_link r a b) k n w = Slide.id_link r a b n.0 n.1.0
  rule (Rules.bot_l a i) k n w = Slide.bot_l a i k n.0
  rule (Rules.top_r a i) k n w = Slide.top_r a i k n.0
  rule (Rules.top_l a i) k n w = Slide.top_l a i k
  rule (Rules.bot_r a i) k n w = Slide.bot_r a i k
  rule (Rules.not_l a i) k n w = Slide.not_l a i k n.0
  rule (Rules.not_r a i) k n w = Slide.not_r a i k n.0
  rule (Rules.and_l a i) k n w = Slide.and_l a i k n.0
  rule (Rules.and_r a i) k n w = Slide.and_r a i k n.0
  rule (Rules.or_l a i) k n w = Slide.or_l a i k n.0
  rule (Rules.or_r a i) k n w = Slide.or_r a i k n.0
  rule (Rules.sub_l a i j) k n w = Slide.sub_l a i j n.0 n.1.0
  rule (Rules.sub_r i j b) k n w = Slide.sub_r i j b n.0 (unnamed b g w)
  rule (Rules.some_l a i b) k n w = Slide.some_l a i b k n.0 (unnamed b g w)
  rule (Rules.some_r a i b) k n w = Slide.some_r a i b k n.0 n.1.0
  rule (Rules.all_l a i b) k n w = Slide.all_l a i b k n.0 n.1.0
  rule (Rules.all_r a i b) k n w = Slide.all_r a i b k n.0 (unnamed b g w)

  -- a step that may be taken is the slide's rule, with these premises
  pub rule_of : (s : Step) → Fits T g s → Rule T g s (premises (plan T s) g)
  rule_of s f = rule s f.asks (every-All (has g) (plan T s).needs f.needs) f.news

  abbrev of : (s : Step) → (plan T s).asks ≡ true → All (λ t. has g t ≡ true) (plan T s).needs → are_new (plan T s).news g ≡ true
      → Fits T g s × (premises (plan T s) g ≡ premises (plan T s) g)
  of s k n w = (record { asks = k; needs = All-every (has g) (plan T s).needs n; news = w }, refl)

  -- the slide's rule is a step that may be taken, and has no other premises
  pub fits_of : {s : Step} {ps : List Goal} → Rule T g s ps → Fits T g s × (ps ≡ premises (plan T s) g)
  unfolding plan
  fits_of (Slide.id a i k m n) = of (Rules.id a i) k (m, (n, tt)) (none_new g)
  fits_of (Slide.id_sub i j m n) = of (Rules.id_sub i j) refl (m, (n, tt)) (none_new g)
  fits_of (Slide.id_link r a b m n) = of (Rules.id_link r a b) refl (m, (n, tt)) (none_new g)
  fits_of (Slide.bot_l a i k m) = of (Rules.bot_l a i) k (m, tt) (none_new g)
  fits_of (Slide.top_r a i k m) = of (Rules.top_r a i) k (m, tt) (none_new g)
  fits_of (Slide.top_l a i k) = of (Rules.top_l a i) k tt (none_new g)
  fits_of (Slide.bot_r a i k) = of (Rules.bot_r a i) k tt (none_new g)
  fits_of (Slide.not_l a i k m) = of (Rules.not_l a i) k (m, tt) (none_new g)
  fits_of (Slide.not_r a i k m) = of (Rules.not_r a i) k (m, tt) (none_new g)
  fits_of (Slide.and_l a i k m) = of (Rules.and_l a i) k (m, tt) (none_new g)
  fits_of (Slide.and_r a i k m) = of (Rules.and_r a i) k (m, tt) (none_new g)
  fits_of (Slide.or_l a i k m) = of (Rules.or_l a i) k (m, tt) (none_new g)
  fits_of (Slide.or_r a i k m) = of (Rules.or_r a i) k (m, tt) (none_new g)
  fits_of (Slide.sub_l a i j m n) = of (Rules.sub_l a i j) refl (m, (n, tt)) (none_new g)
  fits_of (Slide.sub_r i j b m w) = of (Rules.sub_r i j b) refl (m, tt) (is_new b g w)
  fits_of (Slide.some_l a i b k m w) = of (Rules.some_l a i b) k (m, tt) (is_new b g w)
  fits_of (Slide.some_r a i b k m n) = of (Rules.some_r a i b) k (m, (n, tt)) (none_new g)
  fits_of (Slide.all_l a i b k m n) = of (Rules.all_l a i b) k (m, (n, tt)) (none_new g)
  fits_of (Slide.all_r a i b k m w) = of (Rules.all_r a i b) k (m, tt) (is_new b g w)

pub row_is_rule : (T : Table) (g : Goal) (s : Step) (ps : List Goal)
    → (((plan T s).asks ≡ true) × (every (has g) (plan T s).needs ≡ true) × (are_new (plan T s).news g ≡ true) × (ps ≡ premises (plan T s) g)) ↔ Rule T g s ps
row_is_rule T g s ps = (there, back)
  where
    there : ((plan T s).asks ≡ true) × (every (has g) (plan T s).needs ≡ true) × (are_new (plan T s).news g ≡ true) × (ps ≡ premises (plan T s) g) → Rule T g s ps
    there h = subst (Rule T g s) (sym h.3) (rule_of T g s (record { asks = h.0; needs = h.1; news = h.2 }))

    back : Rule T g s ps → ((plan T s).asks ≡ true) × (every (has g) (plan T s).needs ≡ true) × (are_new (plan T s).news g ≡ true) × (ps ≡ premises (plan T s) g)
    back r = let f = fits_of T g r in (f.0.asks, f.0.needs, f.0.news, f.1)
