-- How the code's table shows the concept table.
-- Assumes nothing.
use Rattle.std.specs.Prelude.{ℕ, suc, pred, ◌<◌, ◌≤◌, ◌-◌, true, ◌≡◌, refl, List, [], ◌∷◌, ◌++◌, map, take, drop, replicate, length}
use Rattle.std.proofs.Common.{sym, ap, subst, ◌∙◌}
use Rattle.std.proofs.lemmas.List.{length-map, length-take-le, take-append-drop, take-map, nil_from_length}
use Rattle.std.proofs.Math.Nat.{suc-ne-zero}
use mathlib.Core.Path.{ap₂}
use Rattle.alc.specs.Lists.{every}
use Rattle.alc.specs.Ranges.{in_range}
use Rattle.alc.specs.Table.{Entry, Table, entry, entry_of, entry_fields}
use Rattle.alc.specs.Table as Definition
use Rattle.alc.specs.declared.table.Kind.{Kind}
use Rattle.alc.specs.declared.table.Kind.TheVariants.{Top, Bot, Atom, Not, And, Or, Some, All}
use Rattle.alc.specs.declared.table.Entry.{Entry as Stored}

-- the kind of a line
abbrev pub kind_of : Kind → Definition.Kind
kind_of Top = Definition.Kind.top
kind_of Bot = Definition.Kind.bot
kind_of Atom = Definition.Kind.atom
kind_of Not = Definition.Kind.not
kind_of And = Definition.Kind.and
kind_of Or = Definition.Kind.or
kind_of Some = Definition.Kind.some
kind_of All = Definition.Kind.all

-- the line that an entry of the code is
abbrev pub shown : Stored → Entry
shown e = entry_of (kind_of e.kind) e.x e.y

-- the kind of the code that a line's is
abbrev pub kind_stored : Definition.Kind → Kind
kind_stored Definition.Kind.top = Top
kind_stored Definition.Kind.bot = Bot
kind_stored Definition.Kind.atom = Atom
kind_stored Definition.Kind.not = Not
kind_stored Definition.Kind.and = And
kind_stored Definition.Kind.or = Or
kind_stored Definition.Kind.some = Some
kind_stored Definition.Kind.all = All

-- what stands in the code's columns behind the lines of the table
abbrev pub past : Stored
past = record { kind = Top; x = 0; y = 0 }

-- the entries that three columns make
unfoldable pub columns : List Kind → List ℕ → List ℕ → List Stored
columns [] xs ys = []
columns (k ∷ ks) [] ys = []
columns (k ∷ ks) (x ∷ xs) [] = []
columns (k ∷ ks) (x ∷ xs) (y ∷ ys) = record { kind = k; x = x; y = y } ∷ columns ks xs ys

-- a column of 256, of a part of each line and what stands behind the lines; and the three of the code
abbrev pub column_of : {X : Type 0} → (Entry → X) → X → Table → List X
column_of part z T = map part T ++ replicate (256 - length T) z

abbrev pub kinds_of : Table → List Kind
kinds_of T = column_of (λ l. kind_stored l.kind) past.kind T

abbrev pub firsts_of : Table → List ℕ
firsts_of T = column_of (λ l. l.x) past.x T

abbrev pub seconds_of : Table → List ℕ
seconds_of T = column_of (λ l. l.y) past.y T

-- each line's numbers are in their ranges, so its parts are lines above it
unfoldable pub Layered : Table → Type 0
Layered T = (i : ℕ) → i < length T → every (in_range i 0) (entry_fields (entry T i)) ≡ true

-- What the code's table shows gives its columns and its count back.
kind_back : (k : Kind) → kind_stored (kind_of k) ≡ k
kind_back Top = refl
kind_back Bot = refl
kind_back Atom = refl
kind_back Not = refl
kind_back And = refl
kind_back Or = refl
kind_back Some = refl
kind_back All = refl

-- so long are the entries
pub columns_length : (ks : List Kind) (xs ys : List ℕ) → length xs ≡ length ks → length ys ≡ length ks → length (columns ks xs ys) ≡ length ks
unfolding columns
columns_length [] xs ys p q = refl
columns_length (k ∷ ks) [] ys p q = absurd (suc-ne-zero _ (sym p))
columns_length (k ∷ ks) (x ∷ xs) [] p q = absurd (suc-ne-zero _ (sym q))
columns_length (k ∷ ks) (x ∷ xs) (y ∷ ys) p q = ap suc (columns_length ks xs ys (ap pred p) (ap pred q))

-- their parts are the columns
kinds_same : (ks : List Kind) (xs ys : List ℕ) → length xs ≡ length ks → length ys ≡ length ks → map (λ (l : Entry). kind_stored l.kind) (map shown (columns ks xs ys)) ≡ ks
unfolding columns
kinds_same [] xs ys p q = refl
kinds_same (k ∷ ks) [] ys p q = absurd (suc-ne-zero _ (sym p))
kinds_same (k ∷ ks) (x ∷ xs) [] p q = absurd (suc-ne-zero _ (sym q))
kinds_same (k ∷ ks) (x ∷ xs) (y ∷ ys) p q = ap₂ (λ m l. m ∷ l) (kind_back k) (kinds_same ks xs ys (ap pred p) (ap pred q))

firsts_same : (ks : List Kind) (xs ys : List ℕ) → length xs ≡ length ks → length ys ≡ length ks → map (λ (l : Entry). l.x) (map shown (columns ks xs ys)) ≡ xs
unfolding columns
firsts_same [] xs ys p q = sym (nil_from_length xs p)
firsts_same (k ∷ ks) [] ys p q = refl
firsts_same (k ∷ ks) (x ∷ xs) [] p q = absurd (suc-ne-zero _ (sym q))
firsts_same (k ∷ ks) (x ∷ xs) (y ∷ ys) p q = ap (λ l. x ∷ l) (firsts_same ks xs ys (ap pred p) (ap pred q))

seconds_same : (ks : List Kind) (xs ys : List ℕ) → length xs ≡ length ks → length ys ≡ length ks → map (λ (l : Entry). l.y) (map shown (columns ks xs ys)) ≡ ys
unfolding columns
seconds_same [] xs ys p q = sym (nil_from_length ys q)
seconds_same (k ∷ ks) [] ys p q = absurd (suc-ne-zero _ (sym p))
seconds_same (k ∷ ks) (x ∷ xs) [] p q = refl
seconds_same (k ∷ ks) (x ∷ xs) (y ∷ ys) p q = ap (λ l. y ∷ l) (seconds_same ks xs ys (ap pred p) (ap pred q))

-- a column whose part of each line is that of the lines shown, and whose rest is what stands behind them
column_back : {X : Type 0} (part : Entry → X) (z : X) (es : List Stored) (xs : List X) (n : ℕ) → length (map shown (take n es)) ≡ n
    → map part (map shown es) ≡ xs → drop n xs ≡ replicate (256 - n) z → column_of part z (map shown (take n es)) ≡ xs
column_back part z es xs n c e d =
    ap₂ (λ l m. l ++ m)
    (ap (map part) (sym (take-map shown n es)) ∙ sym (take-map part n (map shown es)) ∙ ap (take n) e)
    (ap (λ k. replicate (256 - k) z) c ∙ sym d)
    ∙ take-append-drop n xs

module _ (ks : List Kind) (xs ys : List ℕ) (n : ℕ) (h : n ≤ 256) (lk : length ks ≡ 256) (lx : length xs ≡ 256) (ly : length ys ≡ 256) where
  pub count_back : length (map shown (take n (columns ks xs ys))) ≡ n
  count_back =
      length-map (take n (columns ks xs ys)) shown
      ∙ length-take-le n (columns ks xs ys) (subst (λ k. n ≤ k) (sym (columns_length ks xs ys (lx ∙ sym lk) (ly ∙ sym lk) ∙ lk)) h)

  pub kinds_back : drop n ks ≡ replicate (256 - n) past.kind → kinds_of (map shown (take n (columns ks xs ys))) ≡ ks
  kinds_back d = column_back (λ (l : Entry). kind_stored l.kind) past.kind (columns ks xs ys) ks n count_back (kinds_same ks xs ys (lx ∙ sym lk) (ly ∙ sym lk)) d

  pub firsts_back : drop n xs ≡ replicate (256 - n) past.x → firsts_of (map shown (take n (columns ks xs ys))) ≡ xs
  firsts_back d = column_back (λ (l : Entry). l.x) past.x (columns ks xs ys) xs n count_back (firsts_same ks xs ys (lx ∙ sym lk) (ly ∙ sym lk)) d

  pub seconds_back : drop n ys ≡ replicate (256 - n) past.y → seconds_of (map shown (take n (columns ks xs ys))) ≡ ys
  seconds_back d = column_back (λ (l : Entry). l.y) past.y (columns ks xs ys) ys n count_back (seconds_same ks xs ys (lx ∙ sym lk) (ly ∙ sym lk)) d
