-- What the lines of a dossier say. The reading part gives a word's number and its numbers; here they become ALC's.
-- Assumes nothing.
use Rattle.std.specs.Prelude.{ℕ, cond, List, [], ◌∷◌, ◌++◌, map, eqb, get_or}
use Prim.Native.String.{String}
use Rattle.lines.specs.Text.{on_left, fit}
use Rattle.lines.specs.declared.Line.{Line}
use Rattle.lines.specs.declared.Item.{Item}
use Rattle.lines.specs.declared.Item.TheVariants.{Says, Wrong}
use Rattle.alc.specs.Table.{Kind, Entry, entry_of}
use Rattle.alc.specs.Claims.{Claim, is, sub, link, Sided, left, right}
use Rattle.alc.specs.Rules.{Step}
use Rattle.alc.specs.Rules
use Rattle.alc.specs.Model.{Fact, places, has, edge}

-- a line of the concept table, a claim, `proof` or `model`, a step, the model's size, what the model says; or a line not of the form
pub data Said : Type 0 where
  concept : Entry → Said
  claim : Sided → Said
  proof model : Said
  step : Step → Said
  size : ℕ → Said
  fact : Fact → Said
  unread : Said

-- a claim on its side
abbrev pub sided : ℕ → Claim → Sided
sided s c = cond (eqb s on_left) (left c) (right c)

-- a row of the tables below: a word, and what it says
pub record Saying (A : Type 0) : Type 0 where
  pub word : String
  pub said : A

-- the word says this
abbrev says : {A : Type 0} → String → A → Saying A
says w a = record { word = w; said = a }

-- 1. what the words of the concept table say with the numbers x and y
abbrev pub entries : ℕ → ℕ → List (Saying Entry)
entries x y =
    says "top" (entry_of Kind.top 0 0)
    ∷ says "bot" (entry_of Kind.bot 0 0)
    ∷ says "atom" (entry_of Kind.atom x 0)
    ∷ says "not" (entry_of Kind.not x 0)
    ∷ says "and" (entry_of Kind.and x y)
    ∷ says "or" (entry_of Kind.or x y)
    ∷ says "some" (entry_of Kind.some x y)
    ∷ says "all" (entry_of Kind.all x y)
    ∷ []

-- 2. what those of the claims say
abbrev pub claims : ℕ → ℕ → ℕ → List (Saying Claim)
claims x y z = says "is" (is x y) ∷ says "sub" (sub x y) ∷ says "link" (link x y z) ∷ []

-- 4. what those of the steps say
abbrev pub steps : ℕ → ℕ → ℕ → List (Saying Step)
steps x y z =
    says "id" (Rules.id x y)
    ∷ says "id-sub" (Rules.id_sub x y)
    ∷ says "id-link" (Rules.id_link x y z)
    ∷ says "bot-l" (Rules.bot_l x y)
    ∷ says "top-r" (Rules.top_r x y)
    ∷ says "top-l" (Rules.top_l x y)
    ∷ says "bot-r" (Rules.bot_r x y)
    ∷ says "not-l" (Rules.not_l x y)
    ∷ says "not-r" (Rules.not_r x y)
    ∷ says "and-l" (Rules.and_l x y)
    ∷ says "and-r" (Rules.and_r x y)
    ∷ says "or-l" (Rules.or_l x y)
    ∷ says "or-r" (Rules.or_r x y)
    ∷ says "sub-l" (Rules.sub_l x y z)
    ∷ says "sub-r" (Rules.sub_r x y z)
    ∷ says "some-l" (Rules.some_l x y z)
    ∷ says "some-r" (Rules.some_r x y z)
    ∷ says "all-l" (Rules.all_l x y z)
    ∷ says "all-r" (Rules.all_r x y z)
    ∷ []

-- 4. what those of a model say, behind its size
abbrev pub facts : ℕ → ℕ → ℕ → List (Saying Fact)
facts x y z = says "name" (places x y) ∷ says "has" (has x y) ∷ says "edge" (edge x y z) ∷ []

-- the same rows, as what a line says
abbrev lines : {A : Type 0} → (A → Said) → List (Saying A) → List (Saying Said)
lines f rs = map (λ r. says r.word (f r.said)) rs

-- what each word says with the side s and the numbers x, y, z, in the order of the words of the reading part (`words_as_said` in Theorems)
abbrev pub lexicon : ℕ → ℕ → ℕ → ℕ → List (Saying Said)
lexicon s x y z =
    lines concept (entries x y)
    ++ lines (λ c. claim (sided s c)) (claims x y z)
    ++ (says "proof" proof ∷ says "model" model ∷ [])
    ++ lines step (steps x y z)
    ++ (says "size" (size x) ∷ [])
    ++ lines fact (facts x y z)

-- the same without the words
abbrev pub sayings : ℕ → ℕ → ℕ → ℕ → List Said
sayings s x y z = map (λ r. r.said) (lexicon s x y z)

-- what a line says, by the number of its word
abbrev pub saying : Line → Said
saying l = get_or (sayings l.side l.n0 l.n1 l.n2) l.word unread

-- a line, as the reading part gives it
unfoldable pub said_by : Item → Said
said_by (Says l) = saying l
said_by Wrong = unread

-- what a line says at its place
abbrev pub said_at : ℕ → Item → Said
said_at p i = said_by (fit p i)
