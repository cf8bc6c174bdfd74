-- `parts::ranged` meets its contract: what an arm says of its words' numbers is so in the table of words, and what the last says is so of all others.
-- Assumes nothing.
use Prim.Native.Nat.{ℕ}
use Prim.Native.String.{String}
use mathlib.Core.Bool.{Bool, true}
use mathlib.Core.List.{List, [], ◌∷◌, map}
use mathlib.Core.Logic.{⊎_elim}
use mathlib.Core.Path.{◌≡◌, refl, sym, ap, ◌∙◌}
use borrow.Author.Rules.{rules}
use Rattle.lines.specs.Text.{words, row_index, word_count}
use Rattle.lines.specs.Walk.{number_of}
use Rattle.lines.specs.declared.Line.{Line}
use Rattle.alc.specs.Lists.{every}
use Rattle.alc.specs.Ranges.{in_range}
use Rattle.alc.specs.Rules.{step_fields}
use Rattle.alc.specs.Dossier.{saying}
use Rattle.alc.proofs.Arms.{others}
use Rattle.parts.specs.declared.Field.{Field as Kind}
use Rattle.parts.specs.declared.Field.TheVariants.{Unsaid, Name, Concept}
use Rattle.parts.specs.Fields.{said_fields, fields_by, kinds_at}
use Rattle.parts.proofs.FieldLaws.{has, is_of, is_of_lem, fields_of}
use Rattle.parts.proofs.ranged.Goals as goal

-- the words of the arms, those of the last arm first
abbrev arms : List (List String)
arms =
    ("edge" ∷ [])
    ∷ ("has" ∷ [])
    ∷ ("name" ∷ [])
    ∷ ("size" ∷ [])
    ∷ ("some-r" ∷ "all-r" ∷ [])
    ∷ ("some-l" ∷ "all-l" ∷ [])
    ∷ ("sub-r" ∷ [])
    ∷ ("sub-l" ∷ [])
    ∷ ("link" ∷ "id-link" ∷ [])
    ∷ ("all" ∷ [])
    ∷ ("some" ∷ [])
    ∷ ("or" ∷ [])
    ∷ ("and" ∷ "sub" ∷ "id-sub" ∷ [])
    ∷ ("not" ∷ [])
    ∷ ("atom" ∷ [])
    ∷ ("bot" ∷ "model" ∷ [])
    ∷ ("top" ∷ "proof" ∷ [])
    ∷ []

-- what is tested of a word of these kinds
by : (l : Line) (e d : ℕ) (a b c : Kind) (r : Bool) → r ≡ every (in_range e d) (fields_by a b c l.n0 l.n1 l.n2) → is_of a b c l.word ≡ true
    → r ≡ every (in_range e d) (said_fields (saying l))
by l e d a b c r p h = p ∙ ap (every (in_range e d)) (sym (fields_of l a b c h))

-- the kinds of a word by its number
at : (a b c : Kind) (w k : ℕ) → has a b c k ≡ true → w ≡ k → is_of a b c w ≡ true
at a b c w k t e = ap (is_of a b c) e ∙ is_of_lem a b c k t

pub returns-in-0 : goal.returns-in-0
unfolding words row_index step_fields kinds_at
returns-in-0 c = by c.args.l _ _ _ _ _ _ c.in_ranges.ensures (⊎_elim (at _ _ _ _ _ refl) (at _ _ _ _ _ refl) c.in-0.is)

pub returns-in-1 : goal.returns-in-1
unfolding words row_index step_fields kinds_at
returns-in-1 c = by c.args.l _ _ _ _ _ _ c.in_ranges-in-1.ensures (⊎_elim (at _ _ _ _ _ refl) (at _ _ _ _ _ refl) c.in-1.is)

pub returns-in-2 : goal.returns-in-2
unfolding words row_index step_fields kinds_at
returns-in-2 c = by c.args.l _ _ _ _ _ _ c.in_ranges-in-2.ensures (at _ _ _ _ _ refl c.in-2.is)

pub returns-in-3 : goal.returns-in-3
unfolding words row_index step_fields kinds_at
returns-in-3 c = by c.args.l _ _ _ _ _ _ c.in_ranges-in-3.ensures (at _ _ _ _ _ refl c.in-3.is)

pub returns-in-4 : goal.returns-in-4
unfolding words row_index step_fields kinds_at
returns-in-4 c = by c.args.l _ _ _ _ _ _ c.in_ranges-in-4.ensures (⊎_elim (at _ _ _ _ _ refl) (⊎_elim (at _ _ _ _ _ refl) (at _ _ _ _ _ refl)) c.in-4.is)

pub returns-in-5 : goal.returns-in-5
unfolding words row_index step_fields kinds_at
returns-in-5 c = by c.args.l _ _ _ _ _ _ c.in_ranges-in-5.ensures (at _ _ _ _ _ refl c.in-5.is)

pub returns-in-6 : goal.returns-in-6
unfolding words row_index step_fields kinds_at
returns-in-6 c = by c.args.l _ _ _ _ _ _ c.in_ranges-in-6.ensures (at _ _ _ _ _ refl c.in-6.is)

pub returns-in-7 : goal.returns-in-7
unfolding words row_index step_fields kinds_at
returns-in-7 c = by c.args.l _ _ _ _ _ _ c.in_ranges-in-7.ensures (at _ _ _ _ _ refl c.in-7.is)

pub returns-in-10 : goal.returns-in-10
unfolding words row_index step_fields kinds_at
returns-in-10 c = by c.args.l _ _ _ _ _ _ c.in_ranges-in-10.ensures (⊎_elim (at _ _ _ _ _ refl) (at _ _ _ _ _ refl) c.in-10.is)

pub returns-in-26 : goal.returns-in-26
unfolding words row_index step_fields kinds_at
returns-in-26 c = by c.args.l _ _ _ _ _ _ c.in_ranges-in-26.ensures (at _ _ _ _ _ refl c.in-26.is)

pub returns-in-27 : goal.returns-in-27
unfolding words row_index step_fields kinds_at
returns-in-27 c = by c.args.l _ _ _ _ _ _ c.in_ranges-in-27.ensures (at _ _ _ _ _ refl c.in-27.is)

pub returns-in-28 : goal.returns-in-28
unfolding words row_index step_fields kinds_at
returns-in-28 c = by c.args.l _ _ _ _ _ _ c.in_ranges-in-28.ensures (⊎_elim (at _ _ _ _ _ refl) (at _ _ _ _ _ refl) c.in-28.is)

pub returns-in-29 : goal.returns-in-29
unfolding words row_index step_fields kinds_at
returns-in-29 c = by c.args.l _ _ _ _ _ _ c.in_ranges-in-29.ensures (⊎_elim (at _ _ _ _ _ refl) (at _ _ _ _ _ refl) c.in-29.is)

pub returns-in-32 : goal.returns-in-32
unfolding words row_index step_fields kinds_at
returns-in-32 c = by c.args.l _ _ _ _ _ _ c.in_ranges-in-32.ensures (at _ _ _ _ _ refl c.in-32.is)

pub returns-in-33 : goal.returns-in-33
unfolding words row_index step_fields kinds_at
returns-in-33 c = by c.args.l _ _ _ _ _ _ c.in_ranges-in-33.ensures (at _ _ _ _ _ refl c.in-33.is)

pub returns-in-34 : goal.returns-in-34
unfolding words row_index step_fields kinds_at
returns-in-34 c = by c.args.l _ _ _ _ _ _ c.in_ranges-in-34.ensures (at _ _ _ _ _ refl c.in-34.is)

pub returns-in-35 : goal.returns-in-35
unfolding words row_index step_fields kinds_at
returns-in-35 c = by c.args.l _ _ _ _ _ _ c.in_ranges-in-35.ensures (at _ _ _ _ _ refl c.in-35.is)

pub returns-in_default : goal.returns-in_default
unfolding words row_index step_fields kinds_at
returns-in_default c =
    by c.args.l _ _ _ _ _ _ c.in_ranges-in_default.ensures
    (is_of_lem _ _ _ _ (others (map (map number_of) arms) (has Name Concept Unsaid) word_count refl _ c.requires (search rules)))
