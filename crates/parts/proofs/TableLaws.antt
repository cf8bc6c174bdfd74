-- A line of the text as a line of the table, and the rows that it has to pass. Assumes nothing.
use Prim.Native.Nat.{ℕ, zero, suc, ◌≤◌, ◌<◌, ◌%◌}
use native.Mathlib.Omega.{arith}
use mathlib.Core.Bool.{true, false}
use mathlib.Core.Path.{◌≡◌, refl, sym, ap₂, ◌∙◌}
use lib.Dec.{ltb}
use lib.ListN.{length, get_or}
use Rattle.lines.specs.Text.{words, row_of}
use Rattle.lines.specs.Walk.{claims_from}
use Rattle.lines.specs.declared.Line.{Line}
use Rattle.lines.proofs.Told.{Told}
use Rattle.alc.specs.Lists.{every}
use Rattle.alc.specs.Rows.{refusal}
use Rattle.alc.specs.Ranges.{in_range}
use Rattle.alc.specs.Table.{Table, entry_of, stands}
use Rattle.alc.specs.Dossier.{concept, unread, sayings, saying}
use Rattle.alc.specs.Shown.{kind_at}
use Rattle.parts.specs.Fields.{said_fields}
use Rattle.parts.specs.Parts.{entry_in, entry_rows}
use Rattle.parts.proofs.Small.{Small}

-- a line of the text as a line of the table: what it does not say is 0
pub said_entry : (s x y z w : ℕ) → w < claims_from → ((row_of w).count ≤ 0 → x ≡ 0) → ((row_of w).count ≤ 1 → y ≡ 0) → get_or (sayings s x y z) w unread ≡ concept (entry_of (kind_at w) x y)
unfolding words row_of
said_entry s x y z zero h f g = rw (f (omega arith), g (omega arith))
said_entry s x y z (suc zero) h f g = rw (f (omega arith), g (omega arith))
said_entry s x y z (suc (suc zero)) h f g = rw (g (omega arith))
said_entry s x y z (suc (suc (suc zero))) h f g = rw (g (omega arith))
said_entry s x y z (suc (suc (suc (suc zero)))) h f g = refl
said_entry s x y z (suc (suc (suc (suc (suc zero))))) h f g = refl
said_entry s x y z (suc (suc (suc (suc (suc (suc zero)))))) h f g = refl
said_entry s x y z (suc (suc (suc (suc (suc (suc (suc zero))))))) h f g = refl
said_entry s x y z (suc (suc (suc (suc (suc (suc (suc (suc w)))))))) h f g = absurd (omega arith)

pub byte : (n : ℕ) → n < 256 → n % 256 ≡ n
byte n h = omega arith

pub entry_said : (l : Line) → Told l → Small l → l.word < claims_from → saying l ≡ concept (entry_in l)
entry_said l t m h =
    said_entry l.side l.n0 l.n1 l.n2 l.word h t.first t.second
    ∙ ap₂ (λ a b. concept (entry_of (kind_at l.word) a b)) (sym (byte l.n0 m.first)) (sym (byte l.n1 m.second))

-- the rows of a line of the table, read from the top
module _ (T : Table) (l : Line) where
  pub entry_5 : ltb (length T) 256 ≡ false → 5 ≡ refusal (entry_rows T l)
  unfolding entry_rows
  entry_5 e = rw e

  module _ (e5 : ltb (length T) 256 ≡ true) where
    pub entry_3 : every (in_range (length T) 0) (said_fields (saying l)) ≡ false → 3 ≡ refusal (entry_rows T l)
    unfolding entry_rows
    entry_3 e = rw (e5, e)

    module _ (e3 : every (in_range (length T) 0) (said_fields (saying l)) ≡ true) where
      pub entry_4 : stands T (entry_in l) ≡ true → 4 ≡ refusal (entry_rows T l)
      unfolding entry_rows
      entry_4 e = rw (e5, e3, e)

      pub entry_0 : stands T (entry_in l) ≡ false → 0 ≡ refusal (entry_rows T l)
      unfolding entry_rows
      entry_0 e = rw (e5, e3, e)
