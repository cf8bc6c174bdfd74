-- What the functions find of a line from its word on, said by the definitions of `Text`.
use Rattle.std.specs.Prelude.{ℕ, List, ◌≡◌, cond, drop, Option, Some, None}
use Rattle.std.specs.Option.{MatchOption}
use denote.Ref.{Bor}
use Rattle.lines.specs.Text.{row_of, word_of, behind_of, allowed}
use Rattle.lines.specs.Walk.{read_at}
use Rattle.lines.specs.declared.Next.{Next}
use Rattle.lines.specs.declared.Next.TheVariants.{Found, Bad}
use Rattle.numbers.specs.Numbers.{numbers_in}
use Rattle.numbers.specs.declared.Values.{Values}

-- the line of word w and side s with these numbers
abbrev pub next_by : ℕ → ℕ → Option Values → Next
next_by w s None = Bad
next_by w s (Some r) = Found (record { word = w; side = s; n0 = r.n0; n1 = r.n1; n2 = r.n2; n3 = r.n3 }) r.next

-- the line of side s whose word, of number w, ends at e, where xs begins, for place p
unfoldable pub worded_in : ℕ → ℕ → ℕ → ℕ → List ℕ → Next
worded_in p w s e xs = cond (allowed p w) (next_by w s (numbers_in e (row_of w).count xs)) Bad

-- the line of side s whose word is the field f, which ends at e, for place p
abbrev pub worded_at : List ℕ → List ℕ → ℕ → ℕ → ℕ → Next
worded_at text f e s p = worded_in p (word_of (behind_of s) f) s e (drop e text)

-- r is the word of the line at a position, of side s, with where it ends: what it and the rest of the line say is what the line says. Where r is none
-- the line is bad.
abbrev pub WordAt : List ℕ → ℕ → ℕ → Option (Bor (List ℕ) × ℕ) → Type 0
WordAt text at s r = MatchOption r ((p : ℕ) → read_at text at p ≡ Bad) (λ w. (p : ℕ) → worded_at text w.0.now w.1 s p ≡ read_at text at p)
