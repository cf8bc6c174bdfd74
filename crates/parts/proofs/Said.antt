-- What the words of one part of a dossier say: the lines of the lexicon from a number on are those of that part, so a word there says what its row does.
-- Assumes nothing.
use Prim.Native.Nat.{ℕ, zero, suc, ◌+◌, ◌-◌, ◌≤◌, ◌<◌}
use native.Mathlib.Omega.{arith}
use native.Mathlib.Nat.{not-suc-le-zero, le_of_suc-le-suc}
use mathlib.Core.List.{List, [], ◌∷◌, ◌++◌, map}
use mathlib.Core.Path.{◌≡◌, refl, sym, ap, ◌∙◌}
use lib.ListN.{length, get_or, drop, length-map, get_or-append, get_or-map}
use lib.Seq.{get_or-drop}
use Rattle.alc.specs.Dossier.{Said, unread}

any_default : {A : Type 0} (l : List A) (i : ℕ) (d e : A) → i < length l → get_or l i d ≡ get_or l i e
any_default [] i d e h = absurd (not-suc-le-zero h)
any_default (x ∷ l) zero d e h = refl
any_default (x ∷ l) (suc i) d e h = any_default l i d e (le_of_suc-le-suc h)

pub said_part : {A : Type 0} (f : A → Said) (l : List Said) (n : ℕ) (xs : List A) (behind : List Said) (d : A) → drop n l ≡ map f xs ++ behind
    → (w : ℕ) → n ≤ w → w < n + length xs → get_or l w unread ≡ f (get_or xs (w - n) d)
said_part f l n xs behind d e w h g =
    let v = w - n in
    let p : w ≡ n + v = omega arith in
    let q : v < length (map f xs) = omega (arith, length-map xs f) in
    ap (λ k. get_or l k unread) p
    ∙ sym (get_or-drop n l v unread)
    ∙ ap (λ r. get_or r v unread) e
    ∙ get_or-append (map f xs) behind unread v q
    ∙ any_default (map f xs) v unread (f d) q
    ∙ get_or-map f xs v d
