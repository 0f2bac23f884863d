-- `is_subset` meets its contract.
use mathlib.Core.Path.{refl, sym, ◌∙◌}
use native.Mathlib.Omega.{arith}
use Rattle.sets.specs.Words.{bits_of}
use Rattle.sets.proofs.Pair.{pair_subset}
use Rattle.sets.proofs.is_subset.Goals as goal

pub returns-then-is_subset : goal.returns-then-is_subset
unfolding bits_of
returns-then-is_subset c =
    c.is_subset-then-is_subset.ensures
    ∙ sym (pair_subset _ _ _ _ (omega arith) (omega arith) ∙ rw (sym c.is_subset.ensures ∙ c.if-is_subset.true) refl)

pub returns : goal.returns
unfolding bits_of
returns c = sym (pair_subset _ _ _ _ (omega arith) (omega arith) ∙ rw (sym c.is_subset.ensures ∙ c.if-is_subset.false) refl)
