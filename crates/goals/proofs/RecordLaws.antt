-- Records of claims: equal number for number is equal, so looking for a record among those of a goal is looking for its claim; and what is dropped is
-- the first copy, where one is found. Assumes nothing.
use Rattle.std.proofs.Common.{ℕ, ◌<◌, suc, ◌+◌, ◌-◌, ◌≤◌, Bool, true, false, not, cond, ◌||◌, List, [], ◌∷◌, ◌++◌, ◌≡◌, refl, length, take, drop, ltb, leb, arith, Some, None, position, Result, Ok, Err}
use lib.ListN.{length-append, length-drop}
use mir.Val.{Val}
use denote.Laws.{Is}
use denote.Struct.Declared.{row}
use lib.Seq.{length-take-le}
use borrow.Author.Tests.{lt-ltb}
use Rattle.std.specs.List.{list_any, position_or_len}
use Rattle.std.specs.Option.{is_some}
use Rattle.std.proofs.lemmas.Grind.{common_steps}
use Rattle.alc.specs.declared.Claim.{Claim as Record}
use Rattle.alc.specs.declared.Goal.{Goal as Records}
use Rattle.alc.specs.contracts.Goal.{the_type as goal_type}
use Rattle.goals.specs.declared.Outcome.{Outcome}
use Rattle.goals.specs.declared.Outcome.TheVariants.{Closes, Adds, AddsBoth, Parts}
use Rattle.alc.specs.Shown.{number_of, row_number}
use Rattle.alc.specs.declared.refusal.Refusal.{Refusal}
use Rattle.alc.specs.declared.refusal.Refusal.TheVariants.{TooLong, Malformed, OutOfRange, Repeated, TooMany, OtherKind, Missing, NotNew, NoGoal, GoalFull, TooManyWait, Unfinished, NotFalsified, RoomTooSmall}
use Rattle.std.specs.Result.{IsOk}
use Rattle.std.proofs.Common.{Result, Ok, Err}
use Rattle.alc.specs.Lists.{every}
use Rattle.alc.specs.Rows.{refusal}
use Rattle.goals.specs.Records.{same_record, lacking, keeping, asks, found_in, added, cut_at, Ruling, new_in, kept_by, record_rows}
use denote.Enum.Bare.{sameb}
use mathlib.Core.Bool.{and-true, or-false}
use Rattle.alc.specs.Entries.{kind_of}
use Rattle.alc.specs.contracts.table.Kind.{the_type}
use Rattle.alc.specs.declared.table.Kind.{Kind as Stored}
use Rattle.alc.proofs.Stored.{shown_any}

module _ (c d : Record) where
  pub same_eq : same_record c d ≡ true → c ≡ d
  unfolding same_record
  same_eq h = grind (arith, common_steps)

  pub eq_same : c ≡ d → same_record c d ≡ true
  unfolding same_record
  eq_same e = grind (arith, common_steps)

-- the array of a goal that is passed has 64 records
pub all-length : (g : Records) (vs : List Val) → Is (row goal_type) g vs → length g.claims ≡ 64
all-length g vs told = told.1.1.0.1.0.1

-- some element passes exactly if there is a first that does
pub any_first : {A : Type 0} (p : A → Bool) (l : List A) → is_some (position p l) ≡ list_any p l
any_first p [] = refl
any_first p (x ∷ l) = go (p x) (any_first p l)
  where
    go : (b : Bool) → is_some (position p l) ≡ list_any p l
        → is_some (cond (ltb (cond (not b) (1 + position_or_len p l) 0) (suc (length l))) (Some (cond (not b) (1 + position_or_len p l) 0)) None) ≡ (b || list_any p l)
    go true e = rw (lt-ltb 0 (suc (length l)) (omega arith))
    go false e = grind (arith, common_steps)

-- without the record at a place there are those before it and those behind it
pub cut-length : (l : List Record) (at : ℕ) → at ≤ length l → length (cut_at (Some at) l) ≡ at + (length l - (at + 1))
cut-length l at h = rw (length-append (take at l) (drop (at + 1) l), length-take-le at l h, length-drop (at + 1) l)

-- without the record where the first copy is, if there is one, is without the first copy
pub cut_lacking : (c : Record) (l : List Record) → cut_at (position (same_record c) l) l ≡ lacking c l
unfolding lacking
cut_lacking c [] = refl
cut_lacking c (d ∷ l) = go (same_record c d) (cut_lacking c l)
  where
    go : (b : Bool) → cut_at (position (same_record c) l) l ≡ lacking c l
        → cut_at (cond (ltb (cond (not b) (1 + position_or_len (same_record c) l) 0) (suc (length l))) (Some (cond (not b) (1 + position_or_len (same_record c) l) 0)) None) (d ∷ l) ≡ cond b l (d ∷ lacking c l)
    go true e = rw (lt-ltb 0 (suc (length l)) (omega arith))
    go false e = grind (arith, common_steps)

-- the claim that goes is the first one needed, where the rule drops it
pub cut_leaving : (b : Bool) (ns : List Record) (l : List Record) → cut_at (cond b (found_in ns l) None) l ≡ keeping b ns l
cut_leaving false ns l = refl
cut_leaving true [] l = refl
cut_leaving true (c ∷ ns) l = cut_lacking c l

-- a kind asked is the entry's exactly if it is the same: a table of one line has a line exactly if they are the same, also where only the kind is said
pub kind_asked : (k j : Stored) → sameb the_type j k ≡ asks (Some j) (kind_of k)
kind_asked k j = simp (and-true, or-false) at (shown_any (record { kind = k; x = 0; y = 0 }) (record { kind = j; x = 0; y = 0 } ∷ []))

-- the rows of a plan, read from the top: the first that is not passed has its number, and where all are passed it is 0
module _ (u : Ruling) (l : List Record) (w : ℕ) where
  abbrev t7 : Bool
  t7 = every (λ c. list_any (same_record c) l) u.needed

  abbrev t10 : Bool
  t10 = every (λ r. leb (length (kept_by u l ++ r)) 64) u.comes

  pub at_6 : u.asked ≡ false → 6 ≡ refusal (record_rows u l w)
  unfolding record_rows
  at_6 e = rw e

  module _ (e6 : u.asked ≡ true) where
    pub at_7 : t7 ≡ false → 7 ≡ refusal (record_rows u l w)
    unfolding record_rows
    at_7 e = rw (e6, e)

    module _ (e7 : t7 ≡ true) where
      pub at_8 : new_in u.news l ≡ false → 8 ≡ refusal (record_rows u l w)
      unfolding record_rows
      at_8 e = rw (e6, e7, e)

      module _ (e8 : new_in u.news l ≡ true) where
        pub at_10 : t10 ≡ false → 10 ≡ refusal (record_rows u l w)
        unfolding record_rows
        at_10 e = rw (e6, e7, e8, e)

        module _ (e10 : t10 ≡ true) where
          pub at_11 : leb (length u.comes + w) 17 ≡ false → 11 ≡ refusal (record_rows u l w)
          unfolding record_rows
          at_11 e = rw (e6, e7, e8, e10, e)

          pub at_0 : leb (length u.comes + w) 17 ≡ true → 0 ≡ refusal (record_rows u l w)
          unfolding record_rows
          at_0 e = rw (e6, e7, e8, e10, e)

-- at most two premises are left
pub few_open : (o : Outcome) → length (added o) ≤ 2
few_open Closes = omega arith
few_open (Adds c) = omega arith
few_open (AddsBoth c d) = omega arith
few_open (Parts c d) = omega arith

-- a refusal's number is not 0, so where the number is 0 nothing is refused
named : (k : Refusal) → number_of k ≡ 0 → ⊥
named TooLong h = omega arith
named Malformed h = omega arith
named OutOfRange h = omega arith
named Repeated h = omega arith
named TooMany h = omega arith
named OtherKind h = omega arith
named Missing h = omega arith
named NotNew h = omega arith
named NoGoal h = omega arith
named GoalFull h = omega arith
named TooManyWait h = omega arith
named Unfinished h = omega arith
named NotFalsified h = omega arith
named RoomTooSmall h = omega arith

pub row_zero : {A : Type 0} (r : Result A Refusal) → row_number r ≡ 0 → IsOk r
row_zero (Ok x) e = refl
row_zero (Err k) e = absurd (named k e)

-- where a goal is not full the claim comes
pub with_more : {A : Type 0} (n : ℕ) (x y z : A) → n < 64 → x ≡ cond (ltb n 64) y z → x ≡ y
with_more n x y z h e = rw (lt-ltb n 64 h) at e

pub with_count : (n m : ℕ) → n ≤ 64 → m ≡ cond (ltb n 64) (n + 1) n → m ≤ 64
with_count n m h e = grind (arith, common_steps)
