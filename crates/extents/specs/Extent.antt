-- Which elements a line of the table has, from those that its parts have, and the sets of all the lines.
-- Assumes nothing.
use Rattle.std.specs.Prelude.{ℕ, Bool, true, false, not, ◌&&◌, ◌||◌, List, ◌≡◌, ltb, get_or}
use Rattle.alc.specs.Meaning.{World, member, some_below, every_below}
use Rattle.alc.specs.Table.{Kind, Table, tree_of}
use Rattle.sets.specs.Bit.{bit}

-- m says which elements the lines above have
abbrev pub extent : World → Kind → ℕ → ℕ → (ℕ → ℕ → Bool) → ℕ → Bool
extent W Kind.top x y m d = true
extent W Kind.bot x y m d = false
extent W Kind.atom x y m d = W.atoms x d
extent W Kind.not x y m d = not (m x d)
extent W Kind.and x y m d = m x d && m y d
extent W Kind.or x y m d = m x d || m y d
extent W Kind.some x y m d = some_below W.size (λ e. W.roles x d e && m y e)
extent W Kind.all x y m d = every_below W.size (λ e. not (W.roles x d e) || m y e)

-- an edge of role r leads from d to an element of the set s, of those that 32 bits have room for
unfoldable pub reaches : World → ℕ → ℕ → ℕ → Bool
reaches W r s d = some_below 32 (λ e. W.roles r d e && bit s e)

-- the set at i has, of n elements, those that line i has; behind the lines the sets are empty
abbrev pub Extended : List ℕ → ℕ → Table → World → Type 0
Extended ext count T W = (i d : ℕ) → bit (get_or ext i 0) d ≡ (ltb i count && (ltb d W.size && member W (tree_of T i) d))
