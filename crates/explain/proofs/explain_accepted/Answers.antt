-- `explain_accepted`.
use native.Mathlib.Omega.{arith}
use mathlib.Core.Path.{ap}
use Rattle.std.specs.declared.result.Result.TheVariants.{Ok}
use Rattle.game.proofs.Laws.{accepted_fits}
use Rattle.explain.proofs.Made.{outside_input, outside_output, short, explained}
use Rattle.explain.proofs.explain_accepted.Goals as goal

pub returns-then-i-g : goal.returns-then-i-g
returns-then-i-g c = outside_input _ _ _ _ c.requires c.if-i-g.true

pub returns-then-o-g : goal.returns-then-o-g
returns-then-o-g c =
    outside_output _ _ _ _ c.requires c.if-o-g.true

pub length-requires : goal.length-requires
length-requires c =
    let F = accepted_fits _ c.requires in
    (F.input.most, F.output.most)

pub returns-then-scratch-length : goal.returns-then-scratch-length
returns-then-scratch-length c =
    short _ _ _ _ c.requires (omega arith) (omega arith) (omega (arith, c.length.ensures, c.if-scratch-length.true))

pub explain_position-requires : goal.explain_position-requires
explain_position-requires c =
    (accepted_fits _ c.requires, omega (arith, c.length.ensures), omega arith, omega arith)

pub returns : goal.returns
returns c =
    explained _ _ _ _ c.requires (omega arith) (omega arith) (omega (arith, c.length.ensures))
    c.explain_position.ensures.0 (ap Ok c.explain_position.ensures.1)
