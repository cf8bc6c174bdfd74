-- The theorems: what each verdict means, over the definitions of specs/. Each is proved in the file that its line names.
-- Assumes nothing.
use Prim.Native.Nat.{ℕ, ◌≤◌, ◌<◌}
use mathlib.Core.Bool.{true, false}
use mathlib.Core.List.{List, [], ◌∷◌, map}
use mathlib.Core.Logic.{◌↔◌, ◌≢◌}
use mathlib.Core.Path.{◌≡◌}
use lib.ListN.{length}
use Rattle.lines.specs.Text.{words, lines_of}
use Rattle.alc.specs.Lists.{All, every, elem}
use Rattle.alc.specs.Meaning.{Interp}
use Rattle.alc.specs.Table.{Table, Kind, entry_of, entry, entry_fields, tree_of}
use Rattle.alc.specs.Claims.{Sided, Goal, is, sub, link, left, right, has, holds, Valid}
use Rattle.alc.specs.Rules
use Rattle.alc.specs.Rules.{Step, step_fields, plan}
use Rattle.alc.specs.Goals.{are_new, premises}
use Rattle.alc.specs.Model.{Fact}
use Rattle.alc.specs.Dossier.{Said, lexicon}
use Rattle.alc.specs.Verdict.{proved, refuted, refused, State, rows, verdict}
use Rattle.alc.specs.Known as Dossiers
use Rattle.alc.specs.Slide.{Rule, Is, ◌∋◌, ◌∉◌}
use Rattle.alc.specs.Derivation.{Derives, Works}
use Rattle.alc.specs.Reading.{InRange, GoodTable, ReadsProof, ReadsModel, Evidence, Reads, ReadsUpTo, line_of}
use Rattle.alc.specs.Accepts.{Proves, Against, Falsifies, Fails}
use Rattle.alc.specs.Refusal.{order, within, First, Refuses}
use Rattle.alc.specs.Shown.{number_of}
use Rattle.alc.specs.declared.refusal.Refusal.{Refusal}
use Rattle.alc.proofs.Known
use Rattle.alc.proofs.Slides
use Rattle.alc.proofs.Derive
use Rattle.alc.proofs.Passing
use Rattle.alc.proofs.Places
use Rattle.alc.proofs.Verdicts
use Rattle.alc.proofs.Listed
use Rattle.alc.proofs.Numbered
use Rattle.alc.proofs.Different
use Rattle.alc.proofs.Meant
use Rattle.alc.proofs.Ending
use Rattle.alc.proofs.NotNew

-- WHAT THE VERDICTS SAY OF THE TEXT
-- `proved`, exactly if the room is wide enough, the text reads as a table, claims and steps, and the steps derive the claims. The line is the
-- count of lines
pub proved_iff : (room : ℕ) (text : List ℕ) (n : ℕ) → (verdict room text ≡ proved n) ↔ ((1088 ≤ room) × Proves text × (n ≡ length (lines_of text)))
proved_iff = Verdicts.proved_iff

-- `refuted`, exactly if the room is wide enough, and the text reads as a table, claims and a model: all left claims true, no right claim true,
-- every name in a claim placed
pub refuted_iff : (room : ℕ) (text : List ℕ) (n : ℕ) → (verdict room text ≡ refuted n) ↔ ((1088 ≤ room) × Falsifies text × (n ≡ length (lines_of text)))
refuted_iff = Verdicts.refuted_iff

-- "all left claims true, no right claim true" is that the sequent does not hold
pub against_fails : (T : Table) (I : Interp) (cs : List Sided) → All (Against T I) cs ↔ (holds T I cs ≡ false)
against_fails = Ending.against_fails

-- `refused` with number k at line n, exactly if the rows and states of the definition `Verdict`, read as document 01 reads its table, say so: 14, then 1,
-- then the first row of the earliest bad line that it does not pass, then 12, then 13
pub refused_iff : (room : ℕ) (text : List ℕ) (k n : ℕ) → (verdict room text ≡ refused k n) ↔ Refuses room text k n
refused_iff = Verdicts.refused_iff

-- the rows of a line stand in the order of 01's table
pub rows_in_order : (S : State) (s : Said) → within (map (λ r. r.number) (rows S s)) order ≡ true
rows_in_order = Passing.in_order

-- so a line is refused with one of their numbers: 14 and 1 come before the lines, 12 and 13 at the end only
pub line_number : (S : State) (s : Said) (k : ℕ) → First k (rows S s) → elem k order ≡ true
line_number = Passing.line_number

-- each refusal has a number of the list, so the number of an answer, a `u8` by its type, is that of a `Refusal`
pub refused_listed : (room : ℕ) (text : List ℕ) (k n : ℕ) → verdict room text ≡ refused k n → (r : Refusal) × (number_of r ≡ k)
refused_listed = Listed.refused_listed

-- the table of what the words say and the reading part's table of words have the same words in the same order
pub words_as_said : (s x y z : ℕ) → map (λ r. r.word) (lexicon s x y z) ≡ map (λ r. r.word) words
words_as_said = Places.words_as_said

-- the dossiers with known verdicts have them
pub known_verdicts : every Dossiers.as_known Dossiers.known ≡ true
known_verdicts = Known.known_verdicts

-- WHAT THE VERDICTS MEAN
-- a derivation from a table of the form proves its goal: it holds in every interpretation, of any size
pub derived_valid : (T : Table) (cs : List Sided) (ss : List Step) → GoodTable T → Derives T 0 ss (cs ∷ []) → Valid T cs
derived_valid = Meant.derived_valid

-- what is proved holds in every interpretation
pub proved_valid : (room n : ℕ) (text : List ℕ) {T : Table} {cs : List Sided} {ss : List Step} → verdict room text ≡ proved n → ReadsProof text T cs ss → Valid T cs
proved_valid = Meant.proved_valid

-- what is refuted fails in an interpretation of 1 to 32 elements
pub refuted_fails : (room n : ℕ) (text : List ℕ) {T : Table} {cs : List Sided} {k : ℕ} {fs : List Fact} → verdict room text ≡ refuted n → ReadsModel text T cs k fs
    → Fails T cs
refuted_fails = Meant.refuted_fails

-- no sequent is proved by one text and refuted by another
pub never_both : (room₁ room₂ n₁ n₂ : ℕ) (text₁ text₂ : List ℕ) {T : Table} {cs : List Sided} {ss : List Step} {k : ℕ} {fs : List Fact} → ReadsProof text₁ T cs ss
    → ReadsModel text₂ T cs k fs → verdict room₁ text₁ ≡ proved n₁ → verdict room₂ text₂ ≡ refuted n₂ → ⊥
never_both = Meant.never_both

-- the table, line by line: at most 256 lines, the fields of line i in the range of number i, no two lines equal
pub table_iff : (T : Table) → GoodTable T
    ↔ ((length T ≤ 256) × ((i : ℕ) → i < length T → InRange i 0 (entry_fields (entry T i))) × ((i j : ℕ) → i < j → j < length T → entry T i ≢ entry T j))
table_iff = Numbered.table_iff

-- "so equal numbers mean equal concepts", and different numbers different ones: in the table that a text reads as, where
-- what a line does not say is 0, no two lines have the same tree
pub one_number : (text : List ℕ) (T : Table) (cs : List Sided) (x : Evidence) → Reads text T cs x → (i j : ℕ) → i < length T → j < length T → tree_of T i ≡ tree_of T j
    → i ≡ j
one_number = Different.one_number

-- a text reads in one way only: as one table, one list of claims, and the steps of one derivation or one model, never as both
pub one_reading : (text : List ℕ) (T U : Table) (cs ds : List Sided) (x y : Evidence) → Reads text T cs x → Reads text U ds y → (T ≡ U) × (cs ≡ ds) × (x ≡ y)
one_reading = Meant.one_reading

-- THE RULES
-- a step's row in the table of rules is the slide's rule: the same entry, claims and new name, the same premises
pub row_is_rule : (T : Table) (g : Goal) (s : Step) (ps : List Goal)
    → (((plan T s).asks ≡ true) × (every (has g) (plan T s).needs ≡ true) × (are_new (plan T s).news g ≡ true) × (ps ≡ premises (plan T s) g)) ↔ Rule T g s ps
row_is_rule = Slides.row_is_rule

-- steps derive a goal as a tree (a rule for a goal and derivations of its premises, one after the other, each counting the goals that wait outside it)
-- exactly if they do step by step, in document 01's order
pub derives_iff : (T : Table) (ss : List Step) (g : Goal) → Derives T 0 ss (g ∷ []) ↔ Works T ss (g ∷ []) []
derives_iff = Derive.derives_iff

-- each rule is sound: where its premises hold everywhere, so does the goal
pub rule_sound : (T : Table) → GoodTable T → (g : Goal) (s : Step) (ps : List Goal) → Rule T g s ps → All (Valid T) ps → Valid T g
rule_sound = Meant.rule_sound

-- NEW NAMES
-- whichever the step: where all that is tested before newness is in order (no 1,025th step, a goal open, fields in range, the entry of its kind, the
-- claims there) and its names are not new, it is refused with 8 at its line, whatever was read before and comes behind
pub not_new_refused : (room : ℕ) (text : List ℕ) (T : Table) (cs : List Sided) (ss : List Step) (g : Goal) (gs : List Goal) (s : Step) → 1088 ≤ room
    → ReadsUpTo text T cs ss (g ∷ gs) s → length ss < 1024 → InRange (length T) 0 (step_fields s) → (plan T s).asks ≡ true → every (has g) (plan T s).needs ≡ true
    → are_new (plan T s).news g ≡ false → verdict room text ≡ refused 8 (line_of T cs ss)
not_new_refused = NotNew.not_new_refused

-- the case of the spring, in the slides' words: a `some-l` whose name stands in its goal already
pub some_l_refused : (room : ℕ) (text : List ℕ) (T : Table) (cs : List Sided) (ss : List Step) (g : Goal) (gs : List Goal) (a i b : ℕ) → 1088 ≤ room
    → ReadsUpTo text T cs ss (g ∷ gs) (Rules.some_l a i b) → length ss < 1024 → InRange (length T) 0 (step_fields (Rules.some_l a i b)) → Is T i Kind.some
    → g ∋ left (is a i) → (b ∉ g → ⊥) → verdict room text ≡ refused 8 (line_of T cs ss)
some_l_refused = NotNew.some_l_refused

-- no dossier proves the spring's sentence, that of examples/gift-spring: `atom 0`, `atom 1`, `some 0 0`, `some 0 1`; `left sub 0 1`, `left link 0 0 1`,
-- `left is 0 2`, `right is 1 1`. The text of examples/gift-world refutes it
pub gift_unproved : (room n : ℕ) (text : List ℕ) (ss : List Step)
    → ReadsProof text (entry_of Kind.atom 0 0 ∷ entry_of Kind.atom 1 0 ∷ entry_of Kind.some 0 0 ∷ entry_of Kind.some 0 1 ∷ [])
    (left (sub 0 1) ∷ left (link 0 0 1) ∷ left (is 0 2) ∷ right (is 1 1) ∷ []) ss → verdict room text ≡ proved n → ⊥
gift_unproved = NotNew.gift_unproved
