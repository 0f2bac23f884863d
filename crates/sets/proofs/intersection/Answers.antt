-- `intersection` meets its contract.
use mathlib.Core.Path.{refl}
use mathlib.Core.Bool.{◌&&◌}
use native.Mathlib.Omega.{arith}
use Rattle.sets.specs.Words.{bits_of}
use Rattle.sets.proofs.Values.{Linked, linked}
use Rattle.sets.proofs.intersection.Goals as goal

pub returns : goal.returns
unfolding bits_of
returns c =
    linked 64 {f = λ a b. a && b}
    (Linked.more (omega arith) (omega arith) (omega arith) c.intersection.ensures
    (Linked.more (omega arith) (omega arith) (omega arith) c.intersection-2.ensures Linked.none)) refl
