-- `truth::countered` meets its contract: the sets that `extensions` gives have what the concepts have. Assumes nothing.
use lib.ListN.{length}
use mathlib.Core.Path.{◌∙◌}
use Rattle.truth.proofs.Agree.{first_differs}
use Rattle.truth.proofs.countered.Goals as goal

pub returns : goal.returns
returns c =
    let a = c.args in
    c.first_wrong.ensures ∙ first_differs (length a.table.now) a.model.now c.extensions-ext.result a.table.now c.extensions-ext.ensures.sets c.requires.inside a.claims c.requires.claimed
