-- `forcing`.
use native.Mathlib.Omega.{arith}
use Rattle.bits.proofs.Visit.{whole_start, collected_small, collected_below, collected_falls, collected_next, whole_end}
use Rattle.joined_settle.proofs.forcing.Goals as goal

pub loop-rest-init : goal.loop-rest-init
loop-rest-init c = whole_start 64 _ _ _ (omega (arith, c.requires.0.outputs)) c.requires.3

pub forces-requires : goal.forces-requires
forces-requires c = (
  c.requires.0,
  c.requires.1,
  collected_below 64 _ _ _ c.loop-rest.rest _ c.loop-rest.invariant c.loop-rest-test.true _ c.lowest-o.ensures,
  c.requires.2,
  c.requires.4,
  c.requires.5,
)

pub insert_if-c-requires : goal.insert_if-c-requires
insert_if-c-requires c =
    collected_small 64 _ _ _ c.loop-rest.rest _ c.loop-rest.invariant c.loop-rest-test.true _ c.lowest-o.ensures

pub without_lowest-rest-requires : goal.without_lowest-rest-requires
without_lowest-rest-requires c = c.loop-rest-test.true

pub loop-rest-smaller : goal.loop-rest-smaller
loop-rest-smaller c =
    collected_falls 64 _ _ _ c.loop-rest.rest _ c.loop-rest.invariant c.loop-rest-test.true _ c.lowest-o.ensures _ c.without_lowest-rest.ensures

pub loop-rest-preserved : goal.loop-rest-preserved
loop-rest-preserved c =
    collected_next 64 _ _ _ c.loop-rest.rest _ c.loop-rest.invariant c.loop-rest-test.true _ c.lowest-o.ensures _ c.without_lowest-rest.ensures
    c.forces.ensures c.insert_if-c.ensures

pub returns : goal.returns
returns c = whole_end 64 _ _ _ c.loop-rest.rest _ c.loop-rest.invariant c.loop-rest-test.false c.requires.3
