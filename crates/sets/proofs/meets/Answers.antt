-- `meets` meets its contract.
use mathlib.Core.Path.{refl, sym, ◌∙◌}
use native.Mathlib.Omega.{arith}
use Rattle.sets.specs.Words.{bits_of}
use Rattle.sets.proofs.Pair.{pair_meets}
use Rattle.sets.proofs.meets.Goals as goal

pub returns-then-meets : goal.returns-then-meets
unfolding bits_of
returns-then-meets c = sym (pair_meets _ _ _ _ (omega arith) (omega arith) ∙ rw (sym c.meets.ensures ∙ c.if-meets.true) refl)

pub returns : goal.returns
unfolding bits_of
returns c =
    c.meets-2.ensures ∙ sym (pair_meets _ _ _ _ (omega arith) (omega arith) ∙ rw (sym c.meets.ensures ∙ c.if-meets.false) refl)
