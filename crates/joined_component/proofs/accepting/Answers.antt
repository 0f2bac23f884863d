-- `accepting`.
use mathlib.Core.Path.{◌∙◌}
use Rattle.finite.proofs.Loops.{failed, passed, and_stop, and_next}
use Rattle.joint.specs.Solver.{recurring}
use Rattle.joined_component.proofs.Tests.{accepts_means}
use Rattle.joined_component.proofs.accepting.Goals as goal

pub returns-then-not-returns_to : goal.returns-then-not-returns_to
unfolding recurring
returns-then-not-returns_to c = and_stop _ (failed c.returns_to.ensures c.if-not-returns_to.true-raw)

pub returns : goal.returns
unfolding recurring
returns c =
    and_next (passed c.returns_to.ensures c.if-not-returns_to.false-raw)
    (c.accepts.ensures ∙ accepts_means _ c.requires.0 _ c.requires.4 _ _ c.inputs_of.ensures c.outputs_of.ensures)
