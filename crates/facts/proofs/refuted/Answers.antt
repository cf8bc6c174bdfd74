-- `facts::refuted` meets its contract: the size, the facts and the end are judged one behind the other. Assumes nothing.
use Prim.Native.Nat.{ℕ}
use native.Mathlib.Numerals.{add-one}
use mathlib.Core.List.{[]}
use mathlib.Core.Path.{sym, ap₂, ◌∙◌}
use lib.ListN.{drop}
use Rattle.lines.specs.Text.{lines_of}
use Rattle.alc.specs.Shown.{claims_in}
use Rattle.alc.specs.Verdict.{judge}
use Rattle.sets.specs.declared.Size.{Size}
use Rattle.facts.specs.Asked.{in_facts}
use Rattle.facts.proofs.refuted.Goals as goal

pub returns : goal.returns
returns c =
    let a = c.args in
    let T = a.table.now in
    let cs = claims_in a.claims in
    let f = c.in_ok-n.ensures in
    let long = sym c.len-entries.ensures.count in
    c.ended.ensures _ f.facts f.told
    ∙ sym (f.judged T cs long)
    ∙ ap₂ (λ (k : ℕ) (s : Size). judge k (in_facts T cs s.count []) (lines_of (drop c.in_ok-size.at a.text.now))) (add-one a.from.lines) c.new-model.ensures.size
    ∙ sym (c.in_ok-size.ensures.judged T cs long)
