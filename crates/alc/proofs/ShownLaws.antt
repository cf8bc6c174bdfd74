-- What the code's records show is shown without loss: a claim comes back from its record. Assumes nothing.
use mathlib.Core.List.{List, [], ◌∷◌, map}
use mathlib.Core.Path.{◌≡◌, refl, sym, ap, ◌∙◌}
use Rattle.alc.specs.Claims.{is, sub, link, Sided, left, right}
use Rattle.alc.specs.Shown.{record_of, sided_of}

pub shown_back : (s : Sided) → sided_of (record_of s) ≡ s
shown_back (left (is a i)) = refl
shown_back (left (sub i j)) = refl
shown_back (left (link r a b)) = refl
shown_back (right (is a i)) = refl
shown_back (right (sub i j)) = refl
shown_back (right (link r a b)) = refl

pub all_back : (cs : List Sided) → map sided_of (map record_of cs) ≡ cs
all_back [] = refl
all_back (s ∷ cs) = rw (shown_back s, all_back cs)

pub record_once : (s t : Sided) → record_of s ≡ record_of t → s ≡ t
record_once s t e = sym (shown_back s) ∙ ap sided_of e ∙ shown_back t
