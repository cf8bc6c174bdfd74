-- Lists of claim records: when two are the same, which names one has, and how a rule's plan is shown by records.
-- Assumes nothing.
use Rattle.std.specs.Prelude.{ℕ, ◌+◌, ◌-◌, ◌<◌, Bool, true, false, not, cond, ◌&&◌, ◌||◌, List, [], ◌∷◌, ◌++◌, map, ◌≡◌, eqb, leb, length, get_or, take, drop, position, Option, Some, None, IfSome, Result, IfOk}
use Rattle.std.proofs.Math.Bool.{decide}
use Rattle.lines.specs.Walk.{steps_from}
use Rattle.std.specs.List.{list_any}
use Rattle.alc.specs.Lists.{every, distinct}
use Rattle.alc.specs.Rows.{Row, row, refusal}
use Rattle.alc.specs.Table.{Kind, Kind-discrete}
use Rattle.alc.specs.Rules
use Rattle.alc.specs.Rules.{Step, Plan}
use Rattle.alc.specs.Dossier.{steps}
use Rattle.alc.specs.Shown.{is_kind, link_kind, records, record_of, row_number}
use Rattle.alc.specs.Entries.{kind_of}
use Rattle.alc.specs.declared.Claim.{Claim as Record}
use Rattle.alc.specs.declared.Goal.{Goal as Records}
use Rattle.alc.specs.declared.Name.{Name}
use Rattle.alc.specs.declared.refusal.Refusal.{Refusal}
use Rattle.alc.specs.declared.table.Kind.{Kind as Stored}
use Rattle.goals.specs.declared.Needs.{Needs}
use Rattle.goals.specs.declared.Needs.TheVariants.{Nothing, One, Both}
use Rattle.goals.specs.declared.Outcome.{Outcome}
use Rattle.goals.specs.declared.Outcome.TheVariants.{Closes, Adds, AddsBoth, Parts}
use Rattle.goals.specs.declared.Plan.{Plan as Planned}
use Rattle.goals.specs.declared.Turn.{Turn}

-- the two records are equal, number for number
unfoldable pub same_record : Record → Record → Bool
same_record c d =
    eqb d.kind c.kind
    && (eqb d.side c.side && (eqb d.role.0 c.role.0 && (eqb d.a.0 c.a.0 && (eqb d.b.0 c.b.0 && (eqb d.i.0 c.i.0 && eqb d.j.0 c.j.0)))))

-- the record is of an `is` or a `link` with the name
unfoldable pub has_name : ℕ → Record → Bool
has_name a c = (eqb c.kind is_kind && eqb a c.a.0) || (eqb c.kind link_kind && (eqb a c.a.0 || eqb a c.b.0))

-- the records without the first copy of c
unfoldable pub lacking : Record → List Record → List Record
lacking c [] = []
lacking c (d ∷ l) = cond (same_record c d) l (d ∷ lacking c l)

-- the records that a premise's are added to: without the first needed, where the rule drops it
abbrev pub keeping : Bool → List Record → List Record → List Record
keeping false needs l = l
keeping true [] l = l
keeping true (c ∷ needs) l = lacking c l

-- the step of a word's number with its fields
unfoldable pub step_of : ℕ → ℕ → ℕ → ℕ → Step
step_of w x y z = get_or (map (λ r. r.said) (steps x y z)) (w - steps_from) (Rules.id x y)

-- the entry is of the kind asked, if one is
abbrev pub asks : Option Stored → Kind → Bool
asks None k = true
asks (Some j) k = decide (Kind-discrete k (kind_of j))

-- the claims needed
abbrev pub needed_by : Needs → List Record
needed_by Nothing = []
needed_by (One c) = c ∷ []
needed_by (Both c d) = c ∷ d ∷ []

-- the place where the first claim needed is first found, if it is
abbrev pub found_in : List Record → List Record → Option ℕ
found_in [] l = None
found_in (c ∷ needs) l = position (same_record c) l

-- the new name, where one is asked
abbrev pub news_by : Option Name → List ℕ
news_by None = []
news_by (Some b) = b.0 ∷ []

-- what comes last in each premise
abbrev pub added : Outcome → List (List Record)
added Closes = []
added (Adds c) = (c ∷ []) ∷ []
added (AddsBoth c d) = (c ∷ d ∷ []) ∷ []
added (Parts c d) = (c ∷ []) ∷ (d ∷ []) ∷ []

-- a plan as records show it: whether the entry is of the kind asked, the records needed, whether the first of them is dropped, the names that must be
-- new, and the records that come last in each premise
pub record Ruling : Type 0 where
  pub asked : Bool
  pub needed : List Record
  pub drops : Bool
  pub news : List ℕ
  pub comes : List (List Record)

-- that of a rule's plan
abbrev pub ruling : Plan → Ruling
ruling q =
    record { asked = q.asks; needed = map record_of q.needs; drops = q.drops; news = q.news; comes = map (map record_of) q.premises }

-- that of the code's plan, at an entry of kind k
abbrev pub ruling_by : Kind → Planned → Ruling
ruling_by k p =
    record { asked = asks p.kind k; needed = needed_by p.needs; drops = p.drops; news = news_by p.fresh; comes = added p.leaves }

-- the names are new: in none of the records, and none of them twice
abbrev pub new_in : List ℕ → List Record → Bool
new_in news l = distinct news && every (λ a. not (list_any (has_name a) l)) news

-- what the premises keep of the records l
abbrev pub kept_by : Ruling → List Record → List Record
kept_by u l = keeping u.drops u.needed l

-- the rows of a step that speak of its rule, at the records l with w goals waiting
unfoldable pub record_rows : Ruling → List Record → ℕ → List Row
record_rows u l w =
    row 6 u.asked
    ∷ row 7 (every (λ c. list_any (same_record c) l) u.needed)
    ∷ row 8 (new_in u.news l)
    ∷ row 10 (every (λ r. leb (length (kept_by u l ++ r)) 64) u.comes)
    ∷ row 11 (leb (length u.comes + w) 17)
    ∷ []

-- the records without the one at a place, if one goes
abbrev pub cut_at : Option ℕ → List Record → List Record
cut_at None l = l
cut_at (Some at) l = take at l ++ drop (at + 1) l

-- the records of the premise i that a turn makes of the records l
abbrev pub premise_at : ℕ → Turn → List Record → List Record
premise_at i t l = cut_at t.goes l ++ get_or (added t.leaves) i []

-- the turn's premises can be made of the goal g: the place and the count are right, and there is room
pub record Makes (t : Turn) (g : Records) : Type 0 where
  pub place : IfSome t.goes (λ at. at < g.count)
  pub kept : t.kept ≡ length (cut_at t.goes (records g))
  pub room : every (λ l. leb (length (cut_at t.goes (records g) ++ l)) 64) (added t.leaves) ≡ true

-- what a step does at the records l, whatever they are, with w goals waiting, where other rows come before those of its rule: the number of the first
-- row that it does not pass, and where it passes all, what its premises keep and what comes last in each
pub record Turns (before : List Row) (u : Ruling) (l : List Record) (w : ℕ) (r : Result Turn Refusal) : Type 0 where
  pub number : row_number r ≡ refusal (before ++ record_rows u l w)
  pub leaves : IfOk r (λ t. (cut_at t.goes l ≡ kept_by u l) × (added t.leaves ≡ u.comes))
