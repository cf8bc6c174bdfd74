-- `steps::next_step` meets its contract: each way through it is one case of the definition. Assumes nothing.
use Rattle.std.proofs.Common.{ℕ, List, ◌≡◌, sym, subst, ◌∙◌, Result, Err, arith, rules, ◌+◌}
use Rattle.lines.specs.Text.{at_steps}
use Rattle.lines.specs.Walk.{read_at}
use Rattle.lines.specs.declared.Next.{Next}
use Rattle.reading.proofs.Loop.{when_found}
use Rattle.alc.specs.Table.{Table}
use Rattle.alc.specs.declared.Answer.{Answer}
use Rattle.states.specs.declared.State.{State}
use Rattle.steps.specs.declared.Passed.{Passed}
use Rattle.steps.specs.Acting.{StepAt, refused_at, bad, short, done, many, late, fails, passes}
use Rattle.steps.proofs.StepLaws.{step_word}
use Rattle.alc.proofs.Refusals.{handed_on, value, made_of}
use Rattle.steps.specs.Turning.{TurnAt}
use Rattle.steps.proofs.next_step.Goals as goal

-- what is found is what was read
module _ (T : Table) (s : State) (text : List ℕ) (m n : Next) (read : m ≡ read_at text s.reached.at at_steps) (e : m ≡ n) where
  is : (r : Result Passed Answer) → StepAt T s n r → StepAt T s (read_at text s.reached.at at_steps) r
  is r h = subst (λ k. StepAt T s k r) (sym e ∙ read) h

  -- and so is a refusal that a function makes
  told : (a b : Answer) → a ≡ b → StepAt T s n (Err b) → StepAt T s (read_at text s.reached.at at_steps) (Err a)
  told a b f h = is (Err a) (subst (λ k. StepAt T s n (Err k)) (sym f) h)

pub returns-then-s-ge1024 : goal.returns-then-s-ge1024
returns-then-s-ge1024 c = told _ _ _ _ _ c.read.ensures c.in-Found.is _ _ c.refused.ensures (many (omega arith))

pub returns-then-s-eq0 : goal.returns-then-s-eq0
returns-then-s-eq0 c = told _ _ _ _ _ c.read.ensures c.in-Found.is _ _ c.refused-then-s-eq0.ensures (late (omega arith) (omega arith))

pub turn_at-requires-clause-step : goal.turn_at-requires-clause-step
turn_at-requires-clause-step c = step_word c.in-Found.l (when_found _ _ at_steps _ _ (sym c.read.ensures ∙ c.in-Found.is)).allowed

pub returns-then-s-gt0 : goal.returns-then-s-gt0
returns-then-s-gt0 c = told _ _ _ _ _ c.read.ensures c.in-End.is _ _ c.refused-then-s-gt0.ensures (short c.if-s-gt0.true)

pub returns-in_err-turn-in-Found : goal.returns-in_err-turn-in-Found
returns-in_err-turn-in-Found c =
    let k = made_of _ c.turn_at.result _ c.map_err.ensures.cases (λ e. refused_at e (c.args.s.now.reached.lines + 1)) _ c.in_err-turn-in-Found.was (λ e p. search rules) in
    subst (StepAt _ _ _) (sym (handed_on c.from_residual.result c.in_err-turn-in-Found.field-0.0 c.from_residual.ensures.1))
    (told _ _ _ _ _ c.read.ensures c.in-Found.is _ _ k.2 (fails _ (omega arith) (omega arith) (subst (TurnAt _ _ _ _) k.1 c.turn_at.ensures)))

pub returns-in_ok-turn-in-Found : goal.returns-in_ok-turn-in-Found
returns-in_ok-turn-in-Found c =
    is _ _ _ _ _ c.read.ensures c.in-Found.is _
    (passes _ (omega arith) (omega arith) (subst (TurnAt _ _ _ _) (value _ _ _ c.map_err.ensures.cases _ c.in_ok-turn-in-Found.was) c.turn_at.ensures))

pub returns-in-Bad : goal.returns-in-Bad
returns-in-Bad c = told _ _ _ _ _ c.read.ensures c.in-Bad.is _ _ c.refused-in-Bad.ensures bad

pub returns-else-s-gt0 : goal.returns-else-s-gt0
returns-else-s-gt0 c = is _ _ _ _ _ c.read.ensures c.in-End.is _ (done (omega arith))
