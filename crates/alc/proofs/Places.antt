-- Where a line may stand: the table of words gives each word the places of what it says, so at its place a line says what it says anywhere,
-- and at another it is not of the form.
-- Assumes nothing.
use Prim.Native.Nat.{ℕ}
use mathlib.Core.Bool.{Bool, true, false, cond, ◌&&◌, false≢true}
use mathlib.Core.List.{List, [], ◌∷◌, map}
use mathlib.Core.Logic.{⊎_elim}
use mathlib.Core.Path.{◌≡◌, refl, sym, ap, ap₂, subst, ◌∙◌}
use lib.Dec.{eqb, leb}
use lib.ListN.{get_or, get_or-map}
use borrow.Author.Tests.{eqb-true}
use Rattle.lines.specs.Text as Text
use Rattle.lines.specs.Text.{words, no_row, row_of, item_by, fit}
use Rattle.lines.specs.declared.Line.{Line}
use Rattle.lines.specs.declared.Item.{Item}
use Rattle.lines.specs.declared.Item.TheVariants.{Says, Wrong}
use Rattle.alc.specs.Lists.{All, any}
use Rattle.alc.specs.Table.{Entry}
use Rattle.alc.specs.Claims.{Sided}
use Rattle.alc.specs.Rules.{Step}
use Rattle.alc.specs.Model.{Fact}
use Rattle.alc.specs.Dossier.{Said, concept, claim, proof, model, step, size, fact, unread, lexicon, sayings, saying, said_by, said_at}
use Rattle.alc.specs.Verdict.{Part, table, claims, steps, start, facts, place}
use Rattle.alc.proofs.Logic.{one_true}

-- the parts of the dossier that a line may stand in
abbrev pub parts : Said → List Part
parts (concept e) = table ∷ []
parts (claim s) = table ∷ claims ∷ []
parts proof = table ∷ claims ∷ []
parts model = table ∷ claims ∷ []
parts (step s) = steps ∷ []
parts (size n) = start ∷ []
parts (fact f) = facts ∷ []
parts unread = []

abbrev pub fits : Part → Said → Bool
fits p s = any (λ q. eqb (place p) (place q)) (parts s)

-- the table of words and what they say: the same words in the same order
pub words_as_said : (s x y z : ℕ) → map (λ r. r.word) (lexicon s x y z) ≡ map (λ r. r.word) words
unfolding words
words_as_said s x y z = refl

-- the same by the table of words, column by column
abbrev at : ℕ → Text.Row → Bool
at k r = leb r.first k && leb k r.last

by_column : (p : Part) (l : Line) → map (at (place p)) words ≡ map (fits p) (sayings l.side l.n0 l.n1 l.n2) → at (place p) no_row ≡ fits p unread
    → Text.stands (place p) l ≡ fits p (saying l)
unfolding row_of
by_column p l e f =
    sym (get_or-map (at (place p)) words l.word no_row) ∙ ap₂ (λ c d. get_or c l.word d) e f
    ∙ get_or-map (fits p) (sayings l.side l.n0 l.n1 l.n2) l.word unread

stands_fits : (p : Part) (l : Line) → Text.stands (place p) l ≡ fits p (saying l)
unfolding words
stands_fits table l = by_column table l refl refl
stands_fits claims l = by_column claims l refl refl
stands_fits steps l = by_column steps l refl refl
stands_fits start l = by_column start l refl refl
stands_fits facts l = by_column facts l refl refl

by_item : (b : Bool) (l : Line) → said_by (item_by b l) ≡ cond b (saying l) unread
unfolding said_by
by_item true l = refl
by_item false l = refl

-- what a line says at its place
pub at_place : (p : Part) (i : Item) → said_at (place p) i ≡ cond (fits p (said_by i)) (said_by i) unread
unfolding fit said_by
at_place p (Says l) = by_item (Text.stands (place p) l) l ∙ ap (λ b. cond b (saying l) unread) (stands_fits p l)
at_place p Wrong = refl

-- the turns that a dossier may take
pub data Turn : Part → Said → Type 0 where
  a_concept : {e : Entry} → Turn table (concept e)
  a_claim : {s : Sided} → Turn table (claim s)
  next_claim : {s : Sided} → Turn claims (claim s)
  at_once_proof : Turn table proof
  then_proof : Turn claims proof
  at_once_model : Turn table model
  then_model : Turn claims model
  a_step : {s : Step} → Turn steps (step s)
  a_size : {n : ℕ} → Turn start (size n)
  a_fact : {f : Fact} → Turn facts (fact f)

abbrev part_at : ℕ → Part
part_at n = get_or (table ∷ claims ∷ steps ∷ start ∷ facts ∷ []) n table

part_place : (p : Part) → part_at (place p) ≡ p
part_place table = refl
part_place claims = refl
part_place steps = refl
part_place start = refl
part_place facts = refl

one_of : (P : Part → Type 0) (p : Part) (qs : List Part) → any (λ q. eqb (place p) (place q)) qs ≡ true → All P qs → P p
one_of P p [] e h = absurd (false≢true e)
one_of P p (q ∷ qs) e h =
    ⊎_elim (λ t. subst P (sym (part_place q) ∙ ap part_at (sym (eqb-true (place p) (place q) t)) ∙ part_place p) h.0) (λ t. one_of P p qs t h.1)
    (one_true (eqb (place p) (place q)) (any (λ r. eqb (place p) (place r)) qs) e)

pub turn : (p : Part) (s : Said) → fits p s ≡ true → Turn p s
turn p (concept e) h = one_of (λ q. Turn q (concept e)) p (table ∷ []) h (a_concept, tt)
turn p (claim s) h = one_of (λ q. Turn q (claim s)) p (table ∷ claims ∷ []) h (a_claim, (next_claim, tt))
turn p proof h = one_of (λ q. Turn q proof) p (table ∷ claims ∷ []) h (at_once_proof, (then_proof, tt))
turn p model h = one_of (λ q. Turn q model) p (table ∷ claims ∷ []) h (at_once_model, (then_model, tt))
turn p (step s) h = one_of (λ q. Turn q (step s)) p (steps ∷ []) h (a_step, tt)
turn p (size n) h = one_of (λ q. Turn q (size n)) p (start ∷ []) h (a_size, tt)
turn p (fact f) h = one_of (λ q. Turn q (fact f)) p (facts ∷ []) h (a_fact, tt)
turn p unread h = absurd (false≢true h)
