-- `next_outputs`.
use native.Mathlib.Omega.{arith}
use Rattle.joined_reach.proofs.Rows.{next_start, next_member_lem, next_falls, next_more, next_end}
use borrow.Author.Rules.{rules}
use Rattle.joined_reach.proofs.next_outputs.Goals as goal

pub loop-rest-init : goal.loop-rest-init
loop-rest-init c = next_start _ _ (search rules)

pub output_moves-moves-requires : goal.output_moves-moves-requires
output_moves-moves-requires c =
    let m = next_member_lem _ _ c.loop-rest.rest _ c.loop-rest.invariant c.loop-rest-test.true _ c.lowest.ensures in
    (c.requires.0, c.requires.1 _ m, c.requires.2)

pub without_lowest-rest-requires : goal.without_lowest-rest-requires
without_lowest-rest-requires c = c.loop-rest-test.true

pub loop-rest-smaller : goal.loop-rest-smaller
loop-rest-smaller c =
    next_falls _ _ c.loop-rest.rest _ c.loop-rest.invariant c.loop-rest-test.true _ c.lowest.ensures _ c.without_lowest-rest.ensures

pub loop-rest-preserved : goal.loop-rest-preserved
loop-rest-preserved c =
    next_more _ _ c.loop-rest.rest _ c.loop-rest.invariant c.loop-rest-test.true _ c.lowest.ensures _ c.without_lowest-rest.ensures
    (omega (arith, c.without_lowest-rest.type_inv)) _ _ c.output_moves-moves.ensures c.union-y.ensures

pub returns : goal.returns
returns c = next_end _ _ c.loop-rest.rest _ c.loop-rest.invariant c.loop-rest-test.false
