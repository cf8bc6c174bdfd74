-- `opening::opened` meets its contract: the rows before the first line are tested in their order, and behind them it is what the lines lead to.
-- Assumes nothing.
use Rattle.std.proofs.Common.{ℕ, ◌≤◌, List, length, subst, sym, refl, arith}
use Rattle.alc.specs.Shown.{number_of}
use Rattle.alc.specs.declared.Answer.{Answer}
use Rattle.opening.specs.Opened.{Leads, Opens}
use Rattle.opening.specs.declared.Opening.{Opening}
use Rattle.opening.specs.declared.Opening.TheVariants.{Decided, Follows}
use Rattle.opening.proofs.Begins.{narrow, long, decided}
use Rattle.opening.proofs.Leading.{no_table}
use Rattle.opening.proofs.opened.Goals as goal

-- what the lines lead to is the opening
led : (n : ℕ) (text : List ℕ) (o : Opening) → 1088 ≤ n → length text ≤ 65535 → Leads text o → Opens n text o
led n text (Decided a) w h d = decided n text a w h d
led n text (Follows T s) w h b = record { wide = w; short = h; begins = b }

pub returns-then-records-lt1088 : goal.returns-then-records-lt1088
returns-then-records-lt1088 c = subst (Opens c.args.records c.args.text.now) (sym c.refused.ensures) (narrow _ _ _ refl (omega arith))

pub returns-then-text-gt65535 : goal.returns-then-text-gt65535
returns-then-text-gt65535 c = subst (Opens c.args.records c.args.text.now) (sym c.refused-then-text-gt65535.ensures) (long _ _ _ refl (omega arith) (omega arith))

pub returns-in-Ok : goal.returns-in-Ok
returns-in-Ok c = led _ _ c.headed.result (omega arith) (omega arith) c.headed.ensures

pub headed-requires-clause-listing : goal.headed-requires-clause-listing
headed-requires-clause-listing c = c.in-Ok.ensures

pub returns-in-Err : goal.returns-in-Err
returns-in-Err c =
    subst (λ a. Opens c.args.records c.args.text.now (Decided a)) (sym c.from.ensures)
    (decided _ _ (Answer.Refused (number_of c.in-Err.no_table.refused.refusal) c.in-Err.no_table.refused.line) (omega arith) (omega arith)
    (no_table c.args.text.now c.in-Err.no_table c.in-Err.ensures))
