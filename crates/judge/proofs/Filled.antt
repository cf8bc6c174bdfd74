-- What a read into the rest of a buffer leaves in its front: what was there, and behind it the bytes that were read. Assumes nothing.
use Rattle.std.proofs.Common.{◌≡◌, ℕ, ◌+◌, ◌≤◌, List, ◌++◌, length, take, refl, sym, ap, subst, ◌∙◌, arith}
use Rattle.std.proofs.lemmas.List.{take-take, length-take-le}
use Rattle.std.proofs.lemmas.Slice.{take-put_mid}
use Rattle.std.proofs.Math.Seq.{take-append-add}
use Rattle.std.proofs.KnownBytes.{Consumes-trans}
use Rattle.std.specs.Io.KnownBytes.{Consumes}
use Rattle.std.specs.declared.option.Option.{Option}
use borrow.Rule.Slice.PartMut.{put_mid}

-- the front, and the first m of the bytes that are put behind it
take_more : (d k m : ℕ) (xs ys : List ℕ) → d ≤ length xs → m ≤ length ys → take (d + m) (put_mid d k xs ys) ≡ take d xs ++ take m ys
take_more d k m xs ys within some =
    sym (take-take (d + m) (d + length ys) _ (omega (arith, some)))
    ∙ ap (take (d + m)) (take-put_mid d k xs ys (d + length ys) refl within)
    ∙ subst (λ (n : ℕ). take (n + m) (take d xs ++ ys) ≡ take d xs ++ take m ys) (length-take-le d xs within) (take-append-add (take d xs) ys m)

-- a read that gives m bytes: the front holds all that is consumed
pub filled : (a b c : Option (List ℕ)) (d k m : ℕ) (xs ys : List ℕ) → d ≤ length xs → m ≤ length ys → Consumes a b (take d xs) → Consumes b c (take m ys)
    → Consumes a c (take (d + m) (put_mid d k xs ys))
filled a b c d k m xs ys within some before read = subst (Consumes a c) (sym (take_more d k m xs ys within some)) (Consumes-trans a b c _ _ before read)
