-- ALC: concepts as trees, finite worlds, and which elements a concept has. The standard meaning; nothing of the judge is named here.
-- Assumes nothing.
use Rattle.std.specs.Prelude.{ℕ, zero, suc, ◌<◌, Bool, true, false, not, ◌&&◌, ◌||◌}

-- a concept: `top`, `bot`, an atom, and what `not`, `and`, `or`, `some r` and `all r` make of concepts
pub data Tree : Type 0 where
  top bot : Tree
  atom : ℕ → Tree
  neg : Tree → Tree
  and or : Tree → Tree → Tree
  some all : ℕ → Tree → Tree

-- the elements 0 .. size - 1, a set for each atom, a relation for each role
pub record World : Type 0 where
  pub size : ℕ
  pub atoms : ℕ → ℕ → Bool
  pub roles : ℕ → ℕ → ℕ → Bool

-- a world, and a place for each name
pub record Interp : Type 0 where
  pub world : World
  pub place : ℕ → ℕ

-- each name's place is an element of the world; so there is at least one
abbrev pub Placed : Interp → Type 0
Placed I = (a : ℕ) → I.place a < I.world.size

-- some number below n passes the test
abbrev pub some_below : ℕ → (ℕ → Bool) → Bool
some_below zero p = false
some_below (suc n) p = p n || some_below n p

-- every number below n passes the test
abbrev pub every_below : ℕ → (ℕ → Bool) → Bool
every_below zero p = true
every_below (suc n) p = p n && every_below n p

-- element d is in the concept. `all` is true where there is no edge
unfoldable pub member : World → Tree → ℕ → Bool
member W top d = true
member W bot d = false
member W (atom A) d = W.atoms A d
member W (neg t) d = not (member W t d)
member W (and t u) d = member W t d && member W u d
member W (or t u) d = member W t d || member W u d
member W (some r t) d = some_below W.size (λ e. W.roles r d e && member W t e)
member W (all r t) d = every_below W.size (λ e. not (W.roles r d e) || member W t e)
