-- The fields of a line are those of its word's kinds, with the line's numbers: one law, computed over the whole table of words. Assumes nothing.
use Prim.Native.Nat.{ℕ}
use mathlib.Core.Bool.{Bool, true, false, ◌&&◌}
use mathlib.Core.List.{List, [], ◌∷◌, ◌++◌, map}
use mathlib.Core.Path.{◌≡◌, refl, sym, ap, ◌∙◌}
use lib.Dec.{eqb}
use lib.ListN.{length, get_or, get_or-map}
use Rattle.alc.specs.Table.{Table}
use borrow.Author.Rules.{rules}
use denote.Enum.Bare.{sameb, same_true}
use Rattle.lines.specs.Text.{on_left}
use Rattle.lines.specs.declared.Line.{Line}
use Rattle.alc.specs.Lists.{every}
use Rattle.alc.specs.Ranges.{Field, in_range}
use Rattle.alc.specs.Rules.{step_fields}
use Rattle.alc.specs.Dossier.{Said, unread, sayings, saying}
use Rattle.alc.proofs.Logic.{and_left, and_right}
use Rattle.parts.specs.contracts.Field.{the_type}
use Rattle.parts.specs.declared.Field.{Field as Kind}
use Rattle.parts.specs.declared.Field.TheVariants.{Unsaid}
use Rattle.parts.specs.Fields.{said_fields, kind_of, field_by, fields_by, kinds_at}

-- the fields of these kinds, of which there are three at most
abbrev filled : List Kind → ℕ → ℕ → ℕ → List Field
filled ks x y z = fields_by (get_or ks 0 Unsaid) (get_or ks 1 Unsaid) (get_or ks 2 Unsaid) x y z

-- THE LAW
all_words : (s x y z : ℕ) → map said_fields (sayings s x y z) ≡ map (λ (u : Said). filled (map kind_of (said_fields u)) x y z) (sayings 0 0 0 0)
unfolding field_by step_fields
all_words s x y z = go (eqb s on_left) refl
  where
    go : (b : Bool) → eqb s on_left ≡ b → map said_fields (sayings s x y z) ≡ map (λ (u : Said). filled (map kind_of (said_fields u)) x y z) (sayings 0 0 0 0)
    go true e = rw e
    go false e = rw e

pub fields_at : (l : Line) → said_fields (saying l) ≡ filled (kinds_at l.word) l.n0 l.n1 l.n2
unfolding kinds_at field_by
fields_at l =
    sym (get_or-map said_fields (sayings l.side l.n0 l.n1 l.n2) l.word unread)
    ∙ ap (λ (r : List (List Field)). get_or r l.word []) (all_words l.side l.n0 l.n1 l.n2)
    ∙ get_or-map (λ (u : Said). filled (map kind_of (said_fields u)) l.n0 l.n1 l.n2) (sayings 0 0 0 0) l.word unread

-- the word of number w has these kinds: a test that computes,
abbrev pub has : Kind → Kind → Kind → ℕ → Bool
has a b c w = sameb the_type (get_or (kinds_at w) 0 Unsaid) a && (sameb the_type (get_or (kinds_at w) 1 Unsaid) b && sameb the_type (get_or (kinds_at w) 2 Unsaid) c)

-- and the same shut, so that its numbers are found where it is asked for
unfoldable pub is_of : Kind → Kind → Kind → ℕ → Bool
is_of a b c w = has a b c w

pub is_of_lem : (a b c : Kind) (w : ℕ) → has a b c w ≡ true → is_of a b c w ≡ true
unfolding is_of
is_of_lem a b c w t = t

pub fields_of : (l : Line) (a b c : Kind) → is_of a b c l.word ≡ true → said_fields (saying l) ≡ fields_by a b c l.n0 l.n1 l.n2
unfolding is_of
fields_of l a b c h =
    let t = and_right (sameb the_type (get_or (kinds_at l.word) 0 Unsaid) a) _ h in
    fields_at l ∙ rw (one _ a (and_left _ _ h), one _ b (and_left _ _ t), one _ c (and_right (sameb the_type (get_or (kinds_at l.word) 1 Unsaid) b) _ t))
  where
    one : (k m : Kind) → sameb the_type k m ≡ true → k ≡ m
    one k m e = same_true the_type (search rules) k m e

-- three tests, one after the other
every_append : {A : Type 0} (p : A → Bool) (l m : List A) → every p (l ++ m) ≡ (every p l && every p m)
every_append p [] m = refl
every_append p (x ∷ l) m = go (p x) (every_append p l m)
  where
    go : (b : Bool) → every p (l ++ m) ≡ (every p l && every p m) → (b && every p (l ++ m)) ≡ ((b && every p l) && every p m)
    go true e = e
    go false e = refl

pub ranges_of : (e d : ℕ) (a b c : Kind) (x y z : ℕ) → every (in_range e d) (fields_by a b c x y z)
    ≡ (every (in_range e d) (field_by a x) && (every (in_range e d) (field_by b y) && every (in_range e d) (field_by c z)))
ranges_of e d a b c x y z =
    every_append (in_range e d) (field_by a x) (field_by b y ++ field_by c z)
    ∙ ap (λ t. every (in_range e d) (field_by a x) && t) (every_append (in_range e d) (field_by b y) (field_by c z))

-- what a test of a line's ranges found, with as many lines as the table has
pub ranged_is : (T : Table) (l : Line) (n : ℕ) (b c : Bool) → n ≡ length T → b ≡ every (in_range n 0) (said_fields (saying l)) → b ≡ c
    → every (in_range (length T) 0) (said_fields (saying l)) ≡ c
ranged_is T l n b c m e h = ap (λ (k : ℕ). every (in_range k 0) (said_fields (saying l))) (sym m) ∙ sym e ∙ h
