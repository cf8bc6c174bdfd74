-- A line of the text as a claim: what is said is the claim that is made, and its rows are those that are tested. Assumes nothing.
use Prim.Native.Nat.{ℕ, ◌≤◌, ◌<◌, ◌%◌}
use mathlib.Core.Bool.{Bool, true, false, cond}
use mathlib.Core.List.{List, map}
use mathlib.Core.Path.{◌≡◌, refl, sym, ap, ◌∙◌}
use lib.Dec.{eqb, ltb}
use lib.ListN.{length, get_or, drop}
use borrow.Author.Tests.{le-ltb}
use Rattle.lines.specs.Text.{on_left, on_right}
use Rattle.lines.specs.Walk.{claims_from, sections_from}
use Rattle.lines.specs.declared.Line.{Line}
use Rattle.alc.specs.Lists.{every}
use Rattle.alc.specs.Rows.{refusal}
use Rattle.alc.specs.Ranges.{in_range}
use Rattle.alc.specs.Table.{Table}
use Rattle.alc.specs.Claims.{Claim, is, Sided, left, right}
use Rattle.alc.specs.Dossier.{sided, claim, unread, claims, sayings, saying}
use Rattle.alc.specs.Shown.{record_by, record_of}
use Rattle.alc.specs.Verdict.{rows}
use Rattle.alc.specs.declared.Claim.{Claim as Record}
use Rattle.parts.specs.Fields.{said_fields}
use Rattle.parts.specs.Parts.{claim_by, claim_in, sided_in, claim_rows, in_claims}
use Rattle.parts.proofs.Said.{said_part}
use Rattle.parts.proofs.Small.{Small}
use Rattle.parts.proofs.TableLaws.{byte}

-- the rows of a claim, read from the top
module _ (e n : ℕ) (l : Line) where
  pub claim_5 : ltb n 64 ≡ false → 5 ≡ refusal (claim_rows e n l)
  unfolding claim_rows
  claim_5 h = rw h

  pub claim_full : 64 ≤ n → 5 ≡ refusal (claim_rows e n l)
  claim_full h = claim_5 (le-ltb n 64 h)

  pub claim_3 : ltb n 64 ≡ true → every (in_range e 0) (said_fields (saying l)) ≡ false → 3 ≡ refusal (claim_rows e n l)
  unfolding claim_rows
  claim_3 h g = rw (h, g)

  pub claim_0 : ltb n 64 ≡ true → every (in_range e 0) (said_fields (saying l)) ≡ true → 0 ≡ refusal (claim_rows e n l)
  unfolding claim_rows
  claim_0 h g = rw (h, g)

-- the record of a claim on its side
pub sided_record : (b : Bool) (c : Claim) → record_by (cond b on_left on_right) c ≡ record_of (cond b (left c) (right c))
sided_record true c = refl
sided_record false c = refl

-- the claim, by its word's number
pub claim_at : (l : Line) (w : ℕ) → l.word ≡ w → claim_in l ≡ claim_by w (l.n0 % 256) (l.n1 % 256) (l.n2 % 256)
claim_at l w e = ap (λ k. claim_by k (l.n0 % 256) (l.n1 % 256) (l.n2 % 256)) e

-- what is said with the line's own numbers
said_claim : (s x y z w : ℕ) → claims_from ≤ w → w < sections_from → get_or (sayings s x y z) w unread ≡ claim (sided s (claim_by w x y z))
said_claim s x y z =
    said_part (λ c. claim (sided s c)) (sayings s x y z) claims_from (map (λ r. r.said) (claims x y z)) (drop sections_from (sayings s x y z)) (is x y) refl

-- the record that is made is that of the claim
pub made_as : (l : Line) (r : Record) (s : ℕ) (k : Claim) → r ≡ record_by s k → s ≡ cond (eqb l.side on_left) on_left on_right → claim_in l ≡ k → r ≡ record_of (sided_in l)
made_as l r s k e f g = e ∙ ap (λ t. record_by t k) f ∙ ap (record_by (cond (eqb l.side on_left) on_left on_right)) (sym g) ∙ sided_record (eqb l.side on_left) (claim_in l)

module _ (l : Line) (h : claims_from ≤ l.word) (g : l.word < sections_from) where
  abbrev plain : Sided
  plain = sided l.side (claim_by l.word l.n0 l.n1 l.n2)

  plain_said : saying l ≡ claim plain
  plain_said = said_claim l.side l.n0 l.n1 l.n2 l.word h g

  pub claim_said : Small l → saying l ≡ claim (sided_in l)
  claim_said m =
      plain_said
      ∙ sym (rw (byte l.n0 m.first, byte l.n1 m.second, byte l.n2 m.third))

  -- the judge's rows of a claim are those that are tested
  pub rows_claim : (T : Table) (cs : List Sided) → refusal (rows (in_claims T cs) (saying l)) ≡ refusal (claim_rows (length T) (length cs) l)
  unfolding rows claim_rows
  rows_claim T cs =
      ap (λ s. refusal (rows (in_claims T cs) s)) plain_said
      ∙ ap (λ s. cond (ltb (length cs) 64) (cond (every (in_range (length T) 0) (said_fields s)) 0 3) 5) (sym plain_said)
