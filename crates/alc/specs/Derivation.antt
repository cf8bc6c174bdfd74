-- What a derivation is. As a tree: a rule for a goal and derivations of its premises, one after the other, each counting the goals that wait outside
-- it. And step by step, in document 01's order. `Theorems` has that the two are one.
-- Assumes nothing.
use Rattle.std.specs.Prelude.{ℕ, ◌+◌, ◌≤◌, List, [], ◌∷◌, ◌++◌, length}
use Rattle.alc.specs.Lists.{All}
use Rattle.alc.specs.Table.{Table}
use Rattle.alc.specs.Claims.{Goal}
use Rattle.alc.specs.Rules.{Step}
use Rattle.alc.specs.Slide.{Rule}

-- `Derives T w ss gs`: the steps derive every goal of the list, while w others wait. The first goal is derived by its rule and derivations
-- of its premises, then the rest. "At most 16 goals wait and no goal has more than 64 claims"; with the current one, 17 are open
pub data Derives (T : Table) : ℕ → List Step → List Goal → Type 0 where
  none : {w : ℕ} → Derives T w [] []
  by : {w : ℕ} {s : Step} {ss rs : List Step} {g : Goal} {gs ps : List Goal} → Rule T g s ps → All (λ p. length p ≤ 64) ps
      → length ps + (length gs + w) ≤ 17 → Derives T (length gs + w) ss ps → Derives T w rs gs → Derives T w (s ∷ (ss ++ rs)) (g ∷ gs)

-- `Works T ss gs hs`: the steps, one by one on the open goals, lead from gs to hs. "A step works on the current goal", the first of the list; its
-- premises become current before the goals that wait
pub data Works (T : Table) : List Step → List Goal → List Goal → Type 0 where
  done : {gs : List Goal} → Works T [] gs gs
  on : {s : Step} {ss : List Step} {g : Goal} {gs ps hs : List Goal} → Rule T g s ps → All (λ p. length p ≤ 64) ps → length (ps ++ gs) ≤ 17
      → Works T ss (ps ++ gs) hs → Works T (s ∷ ss) (g ∷ gs) hs
