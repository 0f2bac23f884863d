-- `walked_rows` goes through the numbers of components.
use native.Mathlib.Omega.{arith}
use Rattle.graphs.specs.Component.{number}
use Rattle.environment_table.proofs.Places.{filled_none, filled_join, filled_same, roomy_more, below_next}
use Rattle.environment_table.proofs.Walked.{ahead_start, number_within}
use Rattle.environment.proofs.walked_rows.Goals as goal

pub loop-i-init : goal.loop-i-init
loop-i-init c = (omega arith, filled_none _ _ (λ a h b p. omega (arith, p.0)), ahead_start _ _ _ c.requires.0)

pub component_rows-ahead-requires : goal.component_rows-ahead-requires
component_rows-ahead-requires c =
    let p = c.requires in
    (p.0, roomy_more _ p.1 c.loop-i.invariant.1, c.loop-i-test.true, p.2, p.3, p.4, p.5, c.loop-i.invariant.2)

pub loop-i-preserved : goal.loop-i-preserved
loop-i-preserved c = (
  omega arith,
  filled_join _ c.loop-i.invariant.1 c.component_rows-ahead.ensures.0
      (λ a h b' x y z p. below_next (number _ a) c.loop-i.i p.0 (λ q. (q, p.1)) (λ q. (q, p.1))),
  c.component_rows-ahead.ensures.1,
)

pub shape_of-room : goal.shape_of-room
shape_of-room c = c.loop-i.invariant.1.grows.long

pub returns : goal.returns
returns c =
    filled_same _ c.loop-i.invariant.1 (λ a h b x y z p.
    (omega (arith, number_within c.args.g a x, c.loop-i-test.false), p))
