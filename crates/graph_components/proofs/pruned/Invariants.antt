-- `pruned`. Invariant: no state that is together with s has been dropped. Of the states of `near` that are left it says that they are below n.
use mathlib.Core.Bool.{true}
use Rattle.bits.proofs.Passing.{Passing}
use Rattle.sets.specs.Words.{capacity, bits_of, sets_in}
use Rattle.graph_components.specs.Component.{Pruned}
use Rattle.graph_components.proofs.pruned.Given as goal

abbrev pub invariant-loop-t : goal.invariant-loop-t
invariant-loop-t l =
    Pruned (sets_in l.rows) l.n l.s (bits_of l.x)
    × Passing capacity (bits_of l.initial.t-iterator.rest) l.n (λ _. true) (bits_of l.t-iterator.rest)
