-- `reduced` leaves what is left as it is, or takes the component from it.
use mathlib.Core.Path.{refl, sym, ◌∙◌}
use Rattle.finite.proofs.Truth.{clash}
use Rattle.graph_ranks.proofs.reduced.Goals as goal

pub returns-then-not-member : goal.returns-then-not-member
returns-then-not-member c = record { passed = λ m. refl; found = λ m. clash m (sym c.member.ensures ∙ c.if-not-member.true) }

pub around-requires : goal.around-requires
around-requires c =
    (c.requires.0, c.requires.1, c.requires.2, sym c.member.ensures ∙ c.if-not-member.false, c.requires.4)

pub returns : goal.returns
returns c =
    record {
      passed = λ m. clash (sym c.member.ensures ∙ c.if-not-member.false) m;
      found = λ m. (_, c.around.ensures, c.difference.ensures);
    }
