-- `words::spelling` meets its contract: each arm has the bytes of its word in the table, and past the words there are none. Assumes nothing.
use native.Mathlib.Omega.{arith}
use Rattle.lines.specs.Text.{words, row_of}
use Rattle.words.proofs.Seeking.{spells, spells_none}
use Rattle.words.proofs.spelling.Goals as goal

pub returns-in-0 : goal.returns-in-0
unfolding words row_of
returns-in-0 c = search spells

pub returns-in-1 : goal.returns-in-1
unfolding words row_of
returns-in-1 c = search spells

pub returns-in-2 : goal.returns-in-2
unfolding words row_of
returns-in-2 c = search spells

pub returns-in-3 : goal.returns-in-3
unfolding words row_of
returns-in-3 c = search spells

pub returns-in-4 : goal.returns-in-4
unfolding words row_of
returns-in-4 c = search spells

pub returns-in-5 : goal.returns-in-5
unfolding words row_of
returns-in-5 c = search spells

pub returns-in-6 : goal.returns-in-6
unfolding words row_of
returns-in-6 c = search spells

pub returns-in-7 : goal.returns-in-7
unfolding words row_of
returns-in-7 c = search spells

pub returns-in-8 : goal.returns-in-8
unfolding words row_of
returns-in-8 c = search spells

pub returns-in-9 : goal.returns-in-9
unfolding words row_of
returns-in-9 c = search spells

pub returns-in-10 : goal.returns-in-10
unfolding words row_of
returns-in-10 c = search spells

pub returns-in-11 : goal.returns-in-11
unfolding words row_of
returns-in-11 c = search spells

pub returns-in-12 : goal.returns-in-12
unfolding words row_of
returns-in-12 c = search spells

pub returns-in-13 : goal.returns-in-13
unfolding words row_of
returns-in-13 c = search spells

pub returns-in-14 : goal.returns-in-14
unfolding words row_of
returns-in-14 c = search spells

pub returns-in-15 : goal.returns-in-15
unfolding words row_of
returns-in-15 c = search spells

pub returns-in-16 : goal.returns-in-16
unfolding words row_of
returns-in-16 c = search spells

pub returns-in-17 : goal.returns-in-17
unfolding words row_of
returns-in-17 c = search spells

pub returns-in-18 : goal.returns-in-18
unfolding words row_of
returns-in-18 c = search spells

pub returns-in-19 : goal.returns-in-19
unfolding words row_of
returns-in-19 c = search spells

pub returns-in-20 : goal.returns-in-20
unfolding words row_of
returns-in-20 c = search spells

pub returns-in-21 : goal.returns-in-21
unfolding words row_of
returns-in-21 c = search spells

pub returns-in-22 : goal.returns-in-22
unfolding words row_of
returns-in-22 c = search spells

pub returns-in-23 : goal.returns-in-23
unfolding words row_of
returns-in-23 c = search spells

pub returns-in-24 : goal.returns-in-24
unfolding words row_of
returns-in-24 c = search spells

pub returns-in-25 : goal.returns-in-25
unfolding words row_of
returns-in-25 c = search spells

pub returns-in-26 : goal.returns-in-26
unfolding words row_of
returns-in-26 c = search spells

pub returns-in-27 : goal.returns-in-27
unfolding words row_of
returns-in-27 c = search spells

pub returns-in-28 : goal.returns-in-28
unfolding words row_of
returns-in-28 c = search spells

pub returns-in-29 : goal.returns-in-29
unfolding words row_of
returns-in-29 c = search spells

pub returns-in-30 : goal.returns-in-30
unfolding words row_of
returns-in-30 c = search spells

pub returns-in-31 : goal.returns-in-31
unfolding words row_of
returns-in-31 c = search spells

pub returns-in-32 : goal.returns-in-32
unfolding words row_of
returns-in-32 c = search spells

pub returns-in-33 : goal.returns-in-33
unfolding words row_of
returns-in-33 c = search spells

pub returns-in-34 : goal.returns-in-34
unfolding words row_of
returns-in-34 c = search spells

pub returns-in-35 : goal.returns-in-35
unfolding words row_of
returns-in-35 c = search spells

pub returns-in_default : goal.returns-in_default
returns-in_default c = spells_none _ (omega arith)
