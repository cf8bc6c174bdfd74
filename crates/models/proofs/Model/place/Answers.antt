-- `models::Model::place` meets its contract: a free name has no element, and what is stored is the element. Assumes nothing.
use native.Mathlib.Omega.{arith}
use mathlib.Core.Bool.{not}
use mathlib.Core.Path.{refl, sym, ap, ◌∙◌}
use Rattle.models.specs.Arrays.{seats_of}
use Rattle.models.proofs.Stores.{seated_is, seats_at}
use Rattle.models.proofs.Model.place.Goals as goal

pub returns-then-is_some : goal.returns-then-is_some
unfolding seats_of
returns-then-is_some c = record { answer = sym (ap not (seated_is _ ∙ sym c.is_some.ensures ∙ c.if-is_some.true)); seats = λ b. refl; world = refl }

pub returns : goal.returns
unfolding seats_of
returns c =
    let a = c.args in
    record {
      answer = sym (ap not (seated_is _ ∙ sym c.is_some.ensures ∙ c.if-is_some.false));
      seats = seats_at a.self.now.places a.a.0 a.d (omega arith);
      world = refl;
    }
