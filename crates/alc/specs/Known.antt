-- The dossiers with known verdicts, as document 01 writes them: a line a string, its fields parted by a space.
-- Assumes nothing.
use Rattle.std.specs.Prelude.{ℕ, Bool, cond, ◌&&◌, List, [], ◌∷◌, ◌++◌, map, eqb, take}
use Prim.Native.String.{String}
use Rattle.lines.specs.Text.{bytes, same}
use Rattle.alc.specs.Verdict.{word, number, line, verdict}

-- the text of these lines: byte 9 for a space, byte 10 behind each line
abbrev pub text : List String → List ℕ
text [] = []
text (l ∷ ls) = map (λ b. cond (eqb b 32) 9 b) (bytes l) ++ 10 ∷ text ls

-- a dossier by its lines, and the verdict that it must get
pub record Known : Type 0 where
  pub lines : List String
  pub word : String
  pub number : ℕ
  pub line : ℕ

-- these lines, with this verdict
abbrev gives : List String → String → ℕ → ℕ → Known
gives ls w k n = record { lines = ls; word = w; number = k; line = n }

-- K1 of document 01
abbrev K1 : List String
K1 = "atom 0" ∷ "atom 1" ∷ "left sub 0 1" ∷ "left is 0 0" ∷ "right is 0 1" ∷ "proof" ∷ "sub-l 0 0 1" ∷ "id 0 1" ∷ []

-- the first four lines of K6
abbrev K6 : List String
K6 = "atom 0" ∷ "some 0 0" ∷ "left is 0 1" ∷ "right is 0 0" ∷ []

-- an `and` on the right, with both parts on the left
abbrev both : List String
both = "atom 0" ∷ "atom 1" ∷ "and 0 1" ∷ "left is 0 0" ∷ "left is 0 1" ∷ "right is 0 2" ∷ "proof" ∷ "and-r 0 2" ∷ "id 0 0" ∷ "id 0 1" ∷ []

-- name 0 in `all`, and nobody in the atom: true at an element with no edge
abbrev lonely : List String
lonely = "atom 0" ∷ "all 0 0" ∷ "left is 0 1" ∷ "right is 0 0" ∷ "model" ∷ "size 1" ∷ "name 0 0" ∷ []

-- the dossiers whose verdict is known
unfoldable pub known : List Known
known =
    -- K1 to K10, K12, K13 and K16 of document 01
    gives K1 "proved" 0 8
    ∷ gives (take 7 K1) "refused" 12 8
    ∷ gives [] "refused" 12 1
    ∷ gives (take 6 K1 ++ "id 0 1" ∷ "id 0 1" ∷ []) "refused" 7 7
    ∷ gives (K1 ++ "id 0 1" ∷ []) "refused" 9 9
    ∷ gives (K6 ++ "proof" ∷ "some-l 0 1 0" ∷ []) "refused" 8 6
    ∷ gives (K6 ++ "model" ∷ "size 2" ∷ "name 0 0" ∷ "has 0 1" ∷ "edge 0 0 1" ∷ []) "refuted" 0 9
    ∷ gives (K6 ++ "model" ∷ "size 2" ∷ "name 0 0" ∷ "has 0 0" ∷ "edge 0 0 1" ∷ []) "refused" 13 3
    ∷ gives (K6 ++ "model" ∷ "size 2" ∷ "has 0 1" ∷ "edge 0 0 1" ∷ []) "refused" 12 9
    ∷ gives ("atom 0" ∷ "atom 0" ∷ []) "refused" 4 2
    ∷ gives ("atom 0" ∷ "some 0 0" ∷ "left link 0 0 1" ∷ "left is 1 0" ∷ "right is 0 1" ∷ "proof" ∷ "some-r 0 1 1" ∷ "id 1 0" ∷ []) "proved" 0 8
    ∷ gives ("atom 0" ∷ "not 0" ∷ "left is 0 1" ∷ "right is 0 1" ∷ "proof" ∷ "id 0 1" ∷ []) "refused" 6 6
    ∷ gives ("atom 0" ∷ "some 0 0" ∷ "left is 0 1" ∷ "right is 1 0" ∷ "proof" ∷ "some-l 0 1 0" ∷ []) "refused" 8 6
    -- a name that stands on the right only is not new
    ∷ gives ("atom 0" ∷ "some 0 0" ∷ "left is 0 1" ∷ "right is 1 0" ∷ "proof" ∷ "some-l 0 1 1" ∷ []) "refused" 8 6
    -- a `some-l` that passes, and what it leaves is closed by its own claims
    ∷ gives ("atom 0" ∷ "some 0 0" ∷ "left is 0 1" ∷ "right is 0 1" ∷ "proof" ∷ "some-l 0 1 1" ∷ "some-r 0 1 1" ∷ "id 1 0" ∷ []) "proved" 0 8
    -- an `and_r` with both premises closed, and with the second left open
    ∷ gives both "proved" 0 10
    ∷ gives (take 9 both) "refused" 12 10
    -- an `all-r`, with `all-l` under it
    ∷ gives ("atom 0" ∷ "all 0 0" ∷ "left is 0 1" ∷ "right is 0 1" ∷ "proof" ∷ "all-r 0 1 1" ∷ "all-l 0 1 1" ∷ []) "refused" 12 8
    ∷ gives ("atom 0" ∷ "all 0 0" ∷ "left is 0 1" ∷ "right is 0 1" ∷ "proof" ∷ "all-r 0 1 1" ∷ "all-l 0 1 1" ∷ "id 1 0" ∷ []) "proved" 0 8
    -- a `sub-r`, and one whose name is not new
    ∷ gives ("atom 0" ∷ "right sub 0 0" ∷ "proof" ∷ "sub-r 0 0 5" ∷ "id 5 0" ∷ []) "proved" 0 5
    ∷ gives ("atom 0" ∷ "left is 5 0" ∷ "right sub 0 0" ∷ "proof" ∷ "sub-r 0 0 5" ∷ "id 5 0" ∷ []) "refused" 8 5
    -- a right claim that is true in the model
    ∷ gives ("atom 0" ∷ "right is 0 0" ∷ "model" ∷ "size 1" ∷ "name 0 0" ∷ "has 0 0" ∷ []) "refused" 13 2
    -- an element with no edge is in `all`
    ∷ gives lonely "refuted" 0 7
    -- the empty sequent holds nowhere: any world refutes it, and no step closes it
    ∷ gives ("model" ∷ "size 1" ∷ []) "refuted" 0 2
    ∷ gives ("proof" ∷ []) "refused" 12 2
    -- a bad line behind an earlier one is not looked at; within a line the order of the rows decides
    ∷ gives ("not 0" ∷ "tops" ∷ []) "refused" 3 1
    ∷ gives (K1 ++ "id 64 9" ∷ []) "refused" 9 9
    ∷ []

-- what the definitions say of a known dossier, with a room that is just large enough
abbrev pub as_known : Known → Bool
as_known k =
    let v = verdict 1088 (text k.lines) in
    same (bytes (word v)) (bytes k.word) && eqb (number v) k.number && eqb (line v) k.line
