-- `extents::reaching` meets its contract: out has the elements below d whose successors meet the set. Assumes nothing.
use Prim.Native.Nat.{ℕ}
use native.Mathlib.Omega.{arith}
use mathlib.Core.Bool.{Bool, true, false, ◌&&◌, or-false}
use mathlib.Core.Path.{sym, ap, ◌∙◌}
use borrow.Author.Tests.{le-ltb}
use Rattle.sets.specs.Bit.{bit}
use Rattle.models.specs.Shown.{world_of}
use Rattle.extents.specs.Extent.{reaches}
use Rattle.sets.proofs.BitLaws.{bit_zero, step}
use Rattle.extents.proofs.ExtentLaws.{meets_reaches}
use Rattle.extents.proofs.reaching.Goals as goal
use Rattle.extents.proofs.reaching.Goals.{then-meets, else-meets}

pub loop-d-init : goal.loop-d-init
loop-d-init c =
    let a = c.args in
    λ e. bit_zero e ∙ sym (ap (λ (t : Bool). t && reaches (world_of a.model.now) a.r.0 a.s e) (le-ltb e 0 (omega arith)))

pub loop-d-preserved : goal.loop-d-preserved
loop-d-preserved c =
    let W = world_of c.args.model.now in
    let r = c.args.r.0 in
    let s = c.args.s in
    let d = c.loop-d.d in
    let met = c.meets.ensures ∙ meets_reaches W r s d c.successors.result c.successors.ensures in
    elim c.if-meets.branch [
      | then-meets w ↦
          step (reaches W r s) c.loop-d.out c.if-meets.out d true (sym w.if-meets.true ∙ met) c.loop-d.invariant (λ e. ap (λ (x : ℕ). bit x e) w.out-is ∙ w.insert.ensures.elements e)
      | else-meets w ↦
          step (reaches W r s) c.loop-d.out c.if-meets.out d false (sym w.if-meets.false ∙ met) c.loop-d.invariant (λ e. ap (λ (x : ℕ). bit x e) w.out-is ∙ sym (or-false (bit c.loop-d.out e)))
    ]
