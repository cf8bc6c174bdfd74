-- The numbers of a line whose fields are in their ranges fit a byte: a field in its range does, and what is not said is 0. Assumes nothing.
use Prim.Native.Nat.{ℕ, ◌≤◌, ◌<◌}
use native.Mathlib.Omega.{arith}
use mathlib.Core.Bool.{Bool, true, false, false≢true, not, ◌&&◌, ◌||◌}
use denote.Enum.Bare.{sameb}
use mathlib.Core.Path.{◌≡◌, refl, sym, ap, ◌∙◌}
use lib.Dec.{ltb, leb}
use lib.ListN.{get_or}
use borrow.Author.Tests.{ltb-true, leb-true}
use Rattle.lines.specs.Text.{word_count, words, row_of}
use Rattle.lines.specs.declared.Line.{Line}
use Rattle.lines.proofs.Told.{Told}
use Rattle.alc.specs.Lists.{every}
use Rattle.alc.specs.Ranges.{in_range}
use Rattle.alc.specs.Meaning.{every_below}
use Rattle.alc.specs.Rules.{step_fields}
use Rattle.alc.specs.Dossier.{saying}
use Rattle.alc.proofs.Logic.{and_left, and_right, every_true}
use Rattle.parts.specs.contracts.Field.{the_type}
use Rattle.parts.specs.declared.Field.{Field as Kind}
use Rattle.parts.specs.declared.Field.TheVariants.{Unsaid, Role, Atom, Name, Element, Size, Concept}
use Rattle.parts.specs.Fields.{said_fields, field_by, kinds_at}
use Rattle.parts.proofs.FieldLaws.{fields_at, ranges_of}

-- the kind is one of a field
abbrev is_field : Kind → Bool
is_field k = not (sameb the_type k Unsaid)

-- a number in the range of its kind
module _ (e d n : ℕ) (le : e ≤ 256) (ld : d ≤ 256) where
  low : (b : ℕ) → b ≤ 256 → (ltb n b && true) ≡ true → n < 256
  low b h t = omega (arith, ltb-true n b (and_left (ltb n b) true t))

  field_small : (k : Kind) → is_field k ≡ true → every (in_range e d) (field_by k n) ≡ true → n < 256
  unfolding field_by
  field_small Unsaid f t = absurd (false≢true f)
  field_small Role f t = low 16 (omega arith) t
  field_small Atom f t = low 64 (omega arith) t
  field_small Name f t = low 64 (omega arith) t
  field_small Element f t = low d ld t
  field_small Size f t = omega (arith, leb-true n 32 (and_right (leb 1 n) (leb n 32) (and_left (leb 1 n && leb n 32) true t)))
  field_small Concept f t = low e le t

  -- said, or not said and 0
  either_small : (k : Kind) (c j : ℕ) → every (in_range e d) (field_by k n) ≡ true → (is_field k || leb c j) ≡ true → (c ≤ j → n ≡ 0) → n < 256
  either_small k c j t h z = go (is_field k) refl h
    where
      go : (b : Bool) → is_field k ≡ b → (b || leb c j) ≡ true → n < 256
      go true f g = field_small k f t
      go false f g = omega (arith, z (leb-true c j g))

-- a word has as many kinds as it takes numbers: a test of all words
filled : ℕ → ℕ → Bool
filled j w = is_field (get_or (kinds_at w) j Unsaid) || leb (row_of w).count j

all_filled : every_below word_count (λ w. filled 0 w && (filled 1 w && filled 2 w)) ≡ true
unfolding filled kinds_at step_fields words row_of
all_filled = refl

pub record Small (l : Line) : Type 0 where
  pub first : l.n0 < 256
  pub second : l.n1 < 256
  pub third : l.n2 < 256

pub small : (l : Line) → Told l → (e d : ℕ) → e ≤ 256 → d ≤ 256 → every (in_range e d) (said_fields (saying l)) ≡ true → Small l
unfolding filled
small l t e d le ld h =
    let w = l.word in
    let ks = kinds_at w in
    let g = sym (ranges_of e d (get_or ks 0 Unsaid) (get_or ks 1 Unsaid) (get_or ks 2 Unsaid) l.n0 l.n1 l.n2) ∙ ap (every (in_range e d)) (sym (fields_at l)) ∙ h in
    let g1 = and_right (every (in_range e d) (field_by (get_or ks 0 Unsaid) l.n0)) _ g in
    let f = every_true (λ v. filled 0 v && (filled 1 v && filled 2 v)) word_count all_filled w t.known in
    let f1 = and_right (filled 0 w) _ f in
    record {
      first = either_small e d l.n0 le ld (get_or ks 0 Unsaid) (row_of w).count 0 (and_left _ _ g) (and_left (filled 0 w) _ f) t.first;
      second = either_small e d l.n1 le ld (get_or ks 1 Unsaid) (row_of w).count 1 (and_left _ _ g1) (and_left (filled 1 w) _ f1) t.second;
      third =
          either_small e d l.n2 le ld (get_or ks 2 Unsaid) (row_of w).count 2 (and_right (every (in_range e d) (field_by (get_or ks 1 Unsaid) l.n1)) _ g1)
          (and_right (filled 1 w) _ f1) t.third;
    }
