-- `none_rows` goes through the inputs.
use native.Mathlib.Omega.{arith}
use Rattle.environment_table.proofs.Places.{filled_none, filled_join, filled_same, roomy_more, below_next}
use Rattle.environment_plain.proofs.none_rows.Goals as goal

pub loop-i-init : goal.loop-i-init
loop-i-init c = (omega arith, filled_none _ _ (λ a h b p. omega (arith, p.0)))

pub none_row-requires : goal.none_row-requires
none_row-requires c = (
  c.requires.0,
  roomy_more _ c.requires.1 c.loop-i.invariant.1,
  c.loop-i-test.true,
)

pub loop-i-preserved : goal.loop-i-preserved
loop-i-preserved c =
    let l = c.loop-i in (
      omega arith,
      filled_join _ l.invariant.1 c.none_row.ensures
          (λ a h b x y z p. below_next a l.i p.0 (λ q. (q, p.1)) (λ q. (q, p.1))),
    )

pub shape_of-room : goal.shape_of-room
shape_of-room c = c.loop-i.invariant.1.grows.long

pub returns : goal.returns
returns c = filled_same _ c.loop-i.invariant.1 (λ a h b x y z p. (omega (arith, x, c.loop-i-test.false), p))
