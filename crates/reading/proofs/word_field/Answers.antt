-- `reading::word_field` meets its contract: without a side the first field is the word, behind one the second is. Assumes nothing.
use Prim.Native.Nat.{ℕ, ◌+◌, ◌≤◌}
use mathlib.Core.List.{List}
use mathlib.Core.Path.{◌≡◌, sym, ap, ◌∙◌}
use mathlib.Core.Bool.{true}
use native.Mathlib.Omega.{arith}
use lib.ListN.{length, drop}
use Rattle.lines.specs.Text.{side_of}
use Rattle.lines.specs.Walk.{field_of, opens, read_at}
use Rattle.lines.proofs.Laws.{Ends, ends, opens_within}
use Rattle.reading.specs.Worded.{worded_at}
use Rattle.reading.proofs.Whole.{first_word, no_word, second_word}
use Rattle.reading.proofs.word_field.Goals as goal

-- where a field ends that was read
ending : (text : List ℕ) (at : ℕ) (f : List ℕ) → at ≤ length text → f ≡ field_of (drop at text) → Ends text at (at + length f)
ending text at f h g = ends text at _ h (ap (λ (xs : List ℕ). at + length xs) g)

-- what is said of that field is said of the bytes that were read
read_as : (text : List ℕ) (at e s p : ℕ) (f g : List ℕ) → f ≡ g → worded_at text g e s p ≡ read_at text at p → worded_at text f e s p ≡ read_at text at p
read_as text at e s p f g h q = rw h q

-- a byte 9 stands in the text
inside : (text : List ℕ) (e : ℕ) → opens 9 (drop e text) ≡ true → e + 1 ≤ length text
inside text e h = omega (arith, opens_within text e 9 h)

pub returns-then-s-eq-NO_SIDE : goal.returns-then-s-eq-NO_SIDE
returns-then-s-eq-NO_SIDE c p =
    let q = c.requires in
    read_as _ _ _ _ _ _ _ q.1 (first_word _ _ _ _ q.0 (ending _ _ _ (omega arith) q.1) (sym (q.2 ∙ ap side_of q.1)) c.if-s-eq-NO_SIDE.true p)

pub returns-then-not-holds : goal.returns-then-not-holds
returns-then-not-holds c p =
    let q = c.requires in
    no_word _ _ _ _ q.0 (ending _ _ _ (omega arith) q.1) (sym (q.2 ∙ ap side_of q.1)) c.if-s-eq-NO_SIDE.false (sym c.holds.ensures ∙ c.if-not-holds.true) p

pub field-second-requires : goal.field-second-requires
field-second-requires c = inside _ _ (sym c.holds.ensures ∙ c.if-not-holds.false)

pub returns : goal.returns
returns c p =
    let q = c.requires in
    let parted = sym c.holds.ensures ∙ c.if-not-holds.false in
    read_as _ _ _ _ _ _ _ c.field-second.ensures
    (second_word _ _ _ _ q.0 (ending _ _ _ (omega arith) q.1) (sym (q.2 ∙ ap side_of q.1)) c.if-s-eq-NO_SIDE.false parted _ (ending _ _ _ (inside _ _ parted) c.field-second.ensures) p)
