-- `reading::read` meets its contract: `word_field` finds the word, and `worded` decides what the line says. Assumes nothing.
use mathlib.Core.Path.{sym}
use Rattle.reading.proofs.Whole.{read_end}
use Rattle.reading.proofs.read.Goals as goal

pub returns-then-at-text : goal.returns-then-at-text
returns-then-at-text c = sym (read_end _ _ _ c.if-at-text.true)
