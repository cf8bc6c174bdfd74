-- `numbers::numbers` meets its contract: each number that is read leads those that are still wanted, and where none is wanted it is 0.
-- Assumes nothing.
use Prim.Native.Nat.{ℕ, ◌-◌}
use mathlib.Core.List.{List}
use mathlib.Core.Path.{◌≡◌, refl, sym, ap, ◌∙◌}
use native.Mathlib.Omega.{arith}
use lib.Dec.{ltb}
use lib.ListN.{drop}
use Rattle.std.specs.Prelude.{Option, Some, None}
use Rattle.numbers.specs.declared.Values.{Values}
use Rattle.numbers.specs.Numbers.{numbers_in, next_at, led}
use Rattle.numbers.proofs.Fields.{behind_none, four_led, next_wrong, next_read}
use Rattle.numbers.proofs.numbers.Goals as goal

module _ (text : List ℕ) (at count : ℕ) where
  -- all of them
  abbrev all : Option Values
  all = numbers_in at count (drop at text)

  whole : numbers_in at (count - 0) (drop at text) ≡ all
  whole = let z : count - 0 ≡ count = omega arith in rw z

  -- those that are left where k were read
  abbrev left : ℕ → ℕ → Option Values
  left k e = numbers_in e (count - k) (drop e text)

  -- behind the first to the fourth; r is what was found, as its function ensures it
  module _ {r : Option (ℕ × ℕ)} (n0 e0 : ℕ) (f : r ≡ next_at (ltb 0 count) text at) (g : r ≡ Some (n0, e0)) where
    one : all ≡ led n0 (left 1 e0)
    one = sym whole ∙ next_read text at 0 count refl f n0 e0 g

    module _ {r1 : Option (ℕ × ℕ)} (n1 e1 : ℕ) (f1 : r1 ≡ next_at (ltb 1 count) text e0) (g1 : r1 ≡ Some (n1, e1)) where
      two : all ≡ led n0 (led n1 (left 2 e1))
      two = one ∙ ap (led n0) (next_read text e0 1 count refl f1 n1 e1 g1)

      module _ {r2 : Option (ℕ × ℕ)} (n2 e2 : ℕ) (f2 : r2 ≡ next_at (ltb 2 count) text e1) (g2 : r2 ≡ Some (n2, e2)) where
        three : all ≡ led n0 (led n1 (led n2 (left 3 e2)))
        three = two ∙ ap (λ w. led n0 (led n1 w)) (next_read text e1 2 count refl f2 n2 e2 g2)

        module _ {r3 : Option (ℕ × ℕ)} (n3 e3 : ℕ) (f3 : r3 ≡ next_at (ltb 3 count) text e2) (g3 : r3 ≡ Some (n3, e3)) where
          four : all ≡ led n0 (led n1 (led n2 (led n3 (left 4 e3))))
          four = three ∙ ap (λ w. led n0 (led n1 (led n2 w))) (next_read text e2 3 count refl f3 n3 e3 g3)

-- where there is no line a number makes none
led_none : (v : ℕ) {r : Option Values} → r ≡ None → led v r ≡ None
led_none v h = rw h

pub returns-in_err-n0 : goal.returns-in_err-n0
returns-in_err-n0 c =
    c.from_residual.ensures ∙ sym (sym (whole _ _ _) ∙ next_wrong _ _ 0 _ refl c.next_number.ensures c.in_err-n0.was)

pub returns-in_err-n1 : goal.returns-in_err-n1
returns-in_err-n1 c =
    c.from_residual-in_err-n1.ensures
    ∙ sym (one _ _ _ _ _ c.next_number.ensures c.in_ok-n0.was ∙ led_none _ (next_wrong _ _ 1 _ refl c.next_number-2.ensures c.in_err-n1.was))

pub returns-in_err-n2 : goal.returns-in_err-n2
returns-in_err-n2 c =
    c.from_residual-in_err-n2.ensures
    ∙ sym (two _ _ _ _ _ c.next_number.ensures c.in_ok-n0.was _ _ c.next_number-2.ensures c.in_ok-n1.was
    ∙ led_none _ (led_none _ (next_wrong _ _ 2 _ refl c.next_number-3.ensures c.in_err-n2.was)))

pub returns-in_err-n3 : goal.returns-in_err-n3
returns-in_err-n3 c =
    c.from_residual-in_err-n3.ensures
    ∙ sym (three _ _ _ _ _ c.next_number.ensures c.in_ok-n0.was _ _ c.next_number-2.ensures c.in_ok-n1.was _ _ c.next_number-3.ensures c.in_ok-n2.was
    ∙ led_none _ (led_none _ (led_none _ (next_wrong _ _ 3 _ refl c.next_number-4.ensures c.in_err-n3.was))))

pub returns-in_err-next : goal.returns-in_err-next
returns-in_err-next c =
    c.from_residual-in_err-next.ensures
    ∙ sym (four _ _ _ _ _ c.next_number.ensures c.in_ok-n0.was _ _ c.next_number-2.ensures c.in_ok-n1.was _ _ c.next_number-3.ensures c.in_ok-n2.was _ _ c.next_number-4.ensures c.in_ok-n3.was
    ∙ led_none _ (led_none _ (led_none _ (led_none _ (behind_none _ (sym c.line_end.ensures ∙ c.in_err-next.was))))))

pub returns : goal.returns
returns c =
    sym (four _ _ _ _ _ c.next_number.ensures c.in_ok-n0.was _ _ c.next_number-2.ensures c.in_ok-n1.was _ _ c.next_number-3.ensures c.in_ok-n2.was _ _ c.next_number-4.ensures c.in_ok-n3.was
    ∙ four_led _ _ _ _ _ _ (sym c.line_end.ensures ∙ c.in_ok-next.was))
