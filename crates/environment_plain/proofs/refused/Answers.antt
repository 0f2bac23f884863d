-- `refused` collects the inputs below j.
use native.Mathlib.Omega.{arith}
use mathlib.Core.Path.{◌∙◌}
use Rattle.bits.proofs.Collect.{collect_none, collect_next, collect_end}
use Rattle.sets.specs.Words.{bits_of}
use Rattle.environment_table.proofs.Reading.{refused_at_lem}
use Rattle.environment_plain.proofs.refused.Goals as goal

pub reached-reach-requires : goal.reached-reach-requires
reached-reach-requires c = c.requires

pub loop-j-init : goal.loop-j-init
loop-j-init c = (omega arith, c.empty-x.ensures.1 ∙ collect_none _)

pub some_won-requires : goal.some_won-requires
some_won-requires c =
    let p = c.requires in
    (p.0.inputs, p.0.outputs, c.loop-j-test.true, omega (arith, p.0.long), c.reached-reach.ensures)

pub insert_if-x-requires : goal.insert_if-x-requires
insert_if-x-requires c =
    omega (arith, c.requires.0.inputs, c.loop-j-test.true)

pub loop-j-preserved : goal.loop-j-preserved
loop-j-preserved c = (
  omega arith,
  collect_next _ c.loop-j.j (bits_of c.loop-j.x) (bits_of c.insert_if-x.result) _
      c.loop-j.invariant.1 (refused_at_lem _ _ _ _ _ _ c.some_won.ensures) c.insert_if-x.ensures,
)

pub returns : goal.returns
returns c = collect_end _ c.loop-j.j _ _ (omega arith) (omega arith) c.loop-j.invariant.1
