-- The steps of a derivation, taken one by one on the open goals, close them; and steps that close the open goals are a derivation: a step's
-- premises stand first in the list, so all of them are closed before a goal that waited is reached.
-- Assumes nothing.
use Prim.Native.Nat.{ℕ, ◌+◌, ◌≤◌}
use native.Mathlib.Omega.{arith}
use mathlib.Core.List.{List, [], ◌∷◌, ◌++◌, append_assoc}
use mathlib.Core.Logic.{◌↔◌}
use mathlib.Core.Path.{◌≡◌, refl, sym, ap, subst, ◌∙◌}
use lib.ListN.{length, length-append}
use Rattle.alc.specs.Lists.{All}
use Rattle.alc.specs.Table.{Table}
use Rattle.alc.specs.Claims.{Goal, Valid}
use Rattle.alc.specs.Rules.{Step}
use Rattle.alc.specs.Slide.{Rule}
use Rattle.alc.specs.Derivation.{Derives, none, by, Works, done, on}
use Rattle.alc.proofs.Trees.{WellFormed}
use Rattle.alc.proofs.Sound.{step_sound}
use Rattle.alc.proofs.RulesSound.{plan_sound}
use Rattle.alc.proofs.Slides.{fits_of}

module _ (T : Table) where
  pub works-append : {ss rs : List Step} {gs hs ks : List Goal} → Works T ss gs hs → Works T rs hs ks → Works T (ss ++ rs) gs ks
  works-append done v = v
  works-append (on r k l w) v = on r k l (works-append w v)

  -- while w goals wait behind them
  pub derives_works : {w : ℕ} {ss : List Step} {gs : List Goal} → Derives T w ss gs → (hs : List Goal) → length hs ≡ w → Works T ss (gs ++ hs) hs
  derives_works none hs q = done
  derives_works (by {w} {s} {ss} {rs} {g} {gs} {ps} r k l d e) hs q =
      let few : length (ps ++ (gs ++ hs)) ≤ 17 = omega (arith, length-append ps (gs ++ hs), length-append gs hs) in
      on r k few (works-append (derives_works d (gs ++ hs) (omega (arith, length-append gs hs))) (derives_works e hs q))

  -- a derivation of two lists of goals: of the first while the second waits, then of the second
  pub record Parted (w : ℕ) (ss : List Step) (gs hs : List Goal) : Type 0 where
    pub these : List Step
    pub those : List Step
    pub steps : ss ≡ these ++ those
    pub front : Derives T (length hs + w) these gs
    pub back : Derives T w those hs

  split : (gs hs : List Goal) (w : ℕ) {ss : List Step} → Derives T w ss (gs ++ hs) → Parted w ss gs hs
  split [] hs w {ss} d = record { these = []; those = ss; steps = refl; front = none; back = d }
  split (g ∷ gs) hs w (by {s = s} {ss} {rs} {ps = ps} r k l d e) =
      let p = split gs hs w e in
      let q : length (gs ++ hs) + w ≡ length gs + (length hs + w) = omega (arith, length-append gs hs) in
      record {
        these = s ∷ (ss ++ p.these);
        those = p.those;
        steps = ap (λ z. s ∷ (ss ++ z)) p.steps ∙ ap (λ z. s ∷ z) (sym (append_assoc ss p.these p.those));
        front = by r k (rw q at l) (rw q at d) p.front;
        back = p.back;
      }

  pub works_derives : {ss : List Step} {gs : List Goal} → Works T ss gs [] → Derives T 0 ss gs
  works_derives done = none
  works_derives (on {s} {ss} {g} {gs} {ps} r k l w) =
      let p = split ps gs 0 (works_derives w) in
      subst (λ z. Derives T 0 (s ∷ z) (g ∷ gs)) (sym p.steps) (by r k (omega (arith, length-append ps gs)) p.front p.back)

  -- the goal of a dossier: no other waits
  pub derives_iff : (ss : List Step) (g : Goal) → Derives T 0 ss (g ∷ []) ↔ Works T ss (g ∷ []) []
  derives_iff ss g = (λ d. derives_works d [] refl, λ w. works_derives w)

  -- each rule is sound, and so what is derived holds everywhere
  pub rule_sound : WellFormed T → {g : Goal} {s : Step} {ps : List Goal} → Rule T g s ps → All (Valid T) ps → Valid T g
  rule_sound wf {g} {s} r v = let f = fits_of T g r in step_sound T s (plan_sound T wf s) g f.0 (rw f.1 at v)

  pub derives_valid : WellFormed T → {w : ℕ} {ss : List Step} {gs : List Goal} → Derives T w ss gs → All (Valid T) gs
  derives_valid wf none = tt
  derives_valid wf (by r k l d e) = (rule_sound wf r (derives_valid wf d), derives_valid wf e)
