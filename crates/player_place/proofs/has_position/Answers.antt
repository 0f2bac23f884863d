-- `has_position` tests input, output and counter in order.
use native.Mathlib.Omega.{arith}
use Rattle.player_place.proofs.Tests.{input_past, output_past, counter_last}
use Rattle.player_place.proofs.has_position.Goals as goal

pub returns-then-at-inputs : goal.returns-then-at-inputs
returns-then-at-inputs c =
    input_past c.args.g _ c.args.at (omega (arith, c.requires.0, c.if-at-inputs.true))

pub returns-then-at-outputs : goal.returns-then-at-outputs
returns-then-at-outputs c =
    output_past c.args.g _ c.args.at (omega (arith, c.requires.0, c.if-at-inputs.false)) (omega (arith, c.requires.1, c.if-at-outputs.true))

pub returns : goal.returns
returns c =
    counter_last c.args.g _ c.args.at (omega (arith, c.requires.0, c.if-at-inputs.false)) (omega (arith, c.requires.1, c.if-at-outputs.false))
