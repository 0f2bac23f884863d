-- `difference` meets its contract.
use mathlib.Core.Path.{refl}
use mathlib.Core.Bool.{◌&&◌, not}
use native.Mathlib.Omega.{arith}
use Rattle.sets.specs.Words.{bits_of}
use Rattle.sets.proofs.Values.{Linked, linked}
use Rattle.sets.proofs.difference.Goals as goal

pub returns : goal.returns
unfolding bits_of
returns c =
    linked 64 {f = λ a b. a && not b}
    (Linked.more (omega arith) (omega arith) (omega arith) c.difference.ensures
    (Linked.more (omega arith) (omega arith) (omega arith) c.difference-2.ensures Linked.none)) refl
