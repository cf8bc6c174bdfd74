-- Lines as they are printed, by computing the definition. Assumes nothing.
use mathlib.Core.Path.{◌≡◌, refl}
use Rattle.lines.specs.Text.{bytes}
use Rattle.alc.specs.Verdict.{proved, refuted, refused}
use Rattle.report.specs.Printed.{digits, printed}

pub one_digit : printed (proved 8) ≡ bytes "proved\t0\t8\n"
unfolding digits printed
one_digit = refl

pub two_digits : printed (refuted 10) ≡ bytes "refuted\t0\t10\n"
unfolding digits printed
two_digits = refl

pub five_digits : printed (refused 12 65536) ≡ bytes "refused\t12\t65536\n"
unfolding digits printed
five_digits = refl
