-- `reading::field` meets its contract: what stands before the place where the field ends is the field. Assumes nothing.
use Prim.Native.Nat.{ℕ, suc, ◌+◌, ◌<◌, ◌≤◌}
use mathlib.Core.List.{List}
use mathlib.Core.Path.{◌≡◌, sym, ap, ◌∙◌}
use mathlib.Core.Bool.{true, false}
use native.Mathlib.Omega.{arith}
use lib.ListN.{length, get_or, drop}
use Rattle.lines.specs.Walk.{parting, field_of}
use Rattle.lines.proofs.Laws.{ends, here, past, field_none, field_here, field_on}
use Rattle.reading.proofs.field.Goals as goal

abbrev left : List ℕ → ℕ → ℕ
left text i = length (field_of (drop i text))

-- in a turn: nothing is left where a field ends, and one byte less behind any other
module _ (text : List ℕ) (i : ℕ) where
  left_none : i < length text → parting (get_or text i 0) ≡ true → left text i ≡ 0
  left_none h t = ap (λ (l : List ℕ). length (field_of l)) (here text i h) ∙ ap length (field_here _ _ t)

  left_more : i < length text → parting (get_or text i 0) ≡ false → left text i ≡ suc (left text (i + 1))
  left_more h t = ap (λ (l : List ℕ). length (field_of l)) (here text i h) ∙ ap length (field_on _ _ t)

  left_past : length text ≤ i → left text i ≡ 0
  left_past h = ap (λ (l : List ℕ). length (field_of l)) (past text i h) ∙ ap length field_none

pub returns-then-parts : goal.returns-then-parts
returns-then-parts c =
    let p = left_none _ _ c.loop-i-test.true (sym c.parts.ensures ∙ c.if-parts.true) in
    (ends _ _ _ c.requires (omega arith)).taken

pub loop-i-preserved : goal.loop-i-preserved
loop-i-preserved c =
    let p = left_more _ _ c.loop-i-test.true (sym c.parts.ensures ∙ c.if-parts.false) in
    omega arith

pub returns : goal.returns
returns c =
    let p = left_past _ _ c.loop-i-test.false in
    (ends _ _ _ c.requires (omega arith)).taken
