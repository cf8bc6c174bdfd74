-- How the code's records, arrays and answers show claims, goals, the table and verdicts.
-- Assumes nothing.
use Rattle.std.specs.Prelude.{ℕ, cond, List, [], ◌∷◌, map, ◌≡◌, eqb, take, get_or, Result, Ok, Err}
use Rattle.lines.specs.Text.{on_left, on_right}
use Rattle.alc.specs.Table.{Kind}
use Rattle.alc.specs.Claims.{Claim, is, sub, link, Sided, left, right}
use Rattle.alc.specs.declared.Claim.{Claim as Record}
use Rattle.alc.specs.Verdict.{Verdict, proved, refuted, refused}
use Rattle.alc.specs.declared.Goal.{Goal as Records}
use Rattle.alc.specs.declared.refusal.Refusal.{Refusal}
use Rattle.alc.specs.declared.refusal.Refusal.TheVariants.{TooLong, Malformed, OutOfRange, Repeated, TooMany, OtherKind, Missing, NotNew, NoGoal, GoalFull, TooManyWait, Unfinished, NotFalsified, RoomTooSmall}
use Rattle.alc.specs.declared.Answer.{Answer}
use Rattle.alc.specs.declared.Answer.TheVariants.{Proved, Refuted, Refused}

-- claim kinds count from 1
abbrev pub is_kind : ℕ
is_kind = 1

abbrev pub sub_kind : ℕ
sub_kind = 2

abbrev pub link_kind : ℕ
link_kind = 3

-- the record of a claim on a side: what a claim does not have is 0
abbrev pub record_by : ℕ → Claim → Record
record_by s (is a i) =
    record { kind = is_kind; side = s; role = record { 0 = 0 }; a = record { 0 = a }; b = record { 0 = 0 }; i = record { 0 = i }; j = record { 0 = 0 } }
record_by s (sub i j) =
    record { kind = sub_kind; side = s; role = record { 0 = 0 }; a = record { 0 = 0 }; b = record { 0 = 0 }; i = record { 0 = i }; j = record { 0 = j } }
record_by s (link r a b) =
    record { kind = link_kind; side = s; role = record { 0 = r }; a = record { 0 = a }; b = record { 0 = b }; i = record { 0 = 0 }; j = record { 0 = 0 } }

-- the record of a claim on its side
abbrev pub record_of : Sided → Record
record_of (left c) = record_by on_left c
record_of (right c) = record_by on_right c

-- all numbers 0
abbrev pub blank : Record
blank = record { kind = 0; side = 0; role = record { 0 = 0 }; a = record { 0 = 0 }; b = record { 0 = 0 }; i = record { 0 = 0 }; j = record { 0 = 0 } }

-- the claim of a record
abbrev pub claim_of : Record → Claim
claim_of c = cond (eqb c.kind is_kind) (is c.a.0 c.i.0) (cond (eqb c.kind sub_kind) (sub c.i.0 c.j.0) (link c.role.0 c.a.0 c.b.0))

-- the same on its side
abbrev pub sided_of : Record → Sided
sided_of c = cond (eqb c.side on_left) (left (claim_of c)) (right (claim_of c))

-- the records of a goal
abbrev pub records : Records → List Record
records g = take g.count g.claims

-- the claims of a goal's records
abbrev pub claims_in : Records → List Sided
claims_in g = map sided_of (records g)

-- the goal's records are those of these claims
abbrev pub Shows : Records → List Sided → Type 0
Shows g cs = records g ≡ map record_of cs

-- the kinds of lines: a kind's number is its index here, which is its word's number
abbrev pub kinds : List Kind
kinds = Kind.top ∷ Kind.bot ∷ Kind.atom ∷ Kind.not ∷ Kind.and ∷ Kind.or ∷ Kind.some ∷ Kind.all ∷ []

-- the kind of a number
abbrev pub kind_at : ℕ → Kind
kind_at k = get_or kinds k Kind.top

-- the number of a refusal in the list
abbrev pub number_of : Refusal → ℕ
number_of TooLong = 1
number_of Malformed = 2
number_of OutOfRange = 3
number_of Repeated = 4
number_of TooMany = 5
number_of OtherKind = 6
number_of Missing = 7
number_of NotNew = 8
number_of NoGoal = 9
number_of GoalFull = 10
number_of TooManyWait = 11
number_of Unfinished = 12
number_of NotFalsified = 13
number_of RoomTooSmall = 14

-- the number of the first row that is not passed, and 0 where all are
abbrev pub row_number : {A : Type 0} → Result A Refusal → ℕ
row_number (Ok x) = 0
row_number (Err k) = number_of k

-- the verdict that an answer is
abbrev pub answered : Answer → Verdict
answered (Proved n) = proved n
answered (Refuted n) = refuted n
answered (Refused k n) = refused k n
