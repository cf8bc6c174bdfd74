-- `derivation::step` meets its contract: a line that ends the derivation has the verdict, and what one that passes does to the room and the state is one
-- of the laws of Waits, by how many premises it leaves. Assumes nothing.
use Rattle.std.proofs.Common.{ℕ, ◌≡◌, List, length, refl, sym, ap, subst, ◌∙◌, Ok, Err}
use Rattle.lines.specs.Text.{at_steps}
use Rattle.lines.specs.Walk.{read_at}
use Rattle.alc.specs.Table.{Table}
use Rattle.alc.proofs.Refusals.{handed_on}
use Rattle.alc.specs.declared.Answer.{Answer}
use Rattle.steps.specs.Acting.{StepAt}
use Rattle.alc.specs.declared.Claim.{Claim as Record}
use Rattle.states.specs.declared.State.{State}
use Rattle.derivation.specs.Waiting.{Stepped}
use Rattle.goals.specs.declared.Outcome.{Outcome}
use Rattle.goals.specs.declared.Outcome.TheVariants.{Closes, Adds, AddsBoth, Parts}
use Rattle.goals.specs.Records.{added}
use Rattle.derivation.proofs.Waits.{one_done, none_done, two_done}
use Rattle.steps.proofs.StepWalk.{ends, goes}
use Rattle.derivation.proofs.step.Goals as goal

-- what neither closes nor parts leaves one premise
one : (o : Outcome) → (o ≡ Closes → ⊥) → ((c d : Record) → o ≡ Parts c d → ⊥) → length (added o) ≡ 1
one Closes n p = absurd (n refl)
one (Adds c) n p = refl
one (AddsBoth c d) n p = refl
one (Parts c d) n p = absurd (p c d refl)

-- the derivation has ended
ended : (text : List ℕ) (T : Table) (l : List Record) (s : State) (a : Answer) → StepAt T s (read_at text s.reached.at at_steps) (Err a) → Stepped text T l s l s (Err a)
ended text T l s a d = record { does = (d, refl, refl); onward = tt; behind = λ cs v st. ends text T st.few s a d cs st.goals st.count st.current ∙ sym st.so }

pub returns-in_err-passed : goal.returns-in_err-passed
returns-in_err-passed c =
    subst (Stepped c.args.text.now c.args.table.now c.args.room.now c.args.s.now c.args.room.now c.args.s.now)
    (sym (handed_on c.from_residual.result c.in_err-passed.field-0.0 c.from_residual.ensures.1))
    (ended c.args.text.now c.args.table.now c.args.room.now c.args.s.now c.in_err-passed.field-0.0 c.in_err-passed.ensures)

pub turn-requires-clause-makes : goal.turn-requires-clause-makes
turn-requires-clause-makes c = (goes _ _ _ _ c.in_ok-passed.ensures).makes

pub returns-in-Closes : goal.returns-in-Closes
returns-in-Closes c =
    subst (λ (r : State). Stepped c.args.text.now c.args.table.now c.args.room.now c.args.s.now c.args.room.now r (Ok tt)) (sym c.close.ensures)
    (none_done _ _ _ c.requires.room c.requires.ready _ _ c.in_ok-passed.ensures (goes _ _ _ _ c.in_ok-passed.ensures) (ap (λ (o : Outcome). length (added o)) c.in-Closes.is))

pub returns-in-Parts : goal.returns-in-Parts
returns-in-Parts c =
    two_done _ _ _ c.requires.room c.requires.ready _ _ c.in_ok-passed.ensures (goes _ _ _ _ c.in_ok-passed.ensures) _ _ _ (ap (λ (o : Outcome). length (added o)) c.in-Parts.is)
    c.turn.ensures.shows c.turn.ensures.few c.put_aside.ensures

pub returns-in_default : goal.returns-in_default
returns-in_default c =
    one_done _ _ _ c.requires.room c.requires.ready _ _ c.in_ok-passed.ensures (goes _ _ _ _ c.in_ok-passed.ensures) _ (one _ c.in_default.not-Closes c.in_default.not-Parts)
    c.turn-in_default.ensures.shows c.turn-in_default.ensures.few
