-- `write_ranks` writes the next rank for the members of each component that it meets.
use native.Mathlib.Omega.{arith}
use Rattle.game.proofs.Laws.{accepted_fits}
use Rattle.graph_ranks.proofs.Ranks.{ranking_start}
use Rattle.graph_ranks.proofs.Walk.{walked_start, walked_small, walked_rank, walked_next, walked_skip, around_ready, members_fit}
use Rattle.graph_ranks.proofs.Walk.{written_next, written_skip, written_end}
use Rattle.graph_ranks.proofs.write_ranks.Goals as goal
use Rattle.graph_ranks.proofs.write_ranks.Goals.{then-member, else-member}

pub crossed-places-requires : goal.crossed-places-requires
crossed-places-requires c = (accepted_fits _ c.requires.0).input.most

pub below-left-requires : goal.below-left-requires
below-left-requires c = (accepted_fits _ c.requires.0).input.most

pub loop-j-init : goal.loop-j-init
loop-j-init c =
    (walked_start _ _ _ c.requires.0 c.crossed-places.ensures c.below-left.ensures, ranking_start _ _)

pub member-requires : goal.member-requires
member-requires c = walked_small c.loop-j.invariant.0 c.loop-j-test.true

pub around-c-requires : goal.around-c-requires
around-c-requires c =
    around_ready c.loop-j.invariant.0 c.loop-j-test.true c.member.ensures c.if-member.true

pub put_rank-requires : goal.put_rank-requires
put_rank-requires c =
    members_fit c.loop-j.invariant.0 c.loop-j-test.true c.member.ensures c.if-member.true c.around-c.ensures _
    (omega (arith, c.loop-j.invariant.1.long, c.requires.1))

pub overflow_add-rank : goal.overflow_add-rank
overflow_add-rank c =
    omega (arith, walked_rank c.loop-j.invariant.0 c.loop-j-test.true)

pub loop-j-smaller : goal.loop-j-smaller
loop-j-smaller c = omega (arith, c.loop-j-test.true)

pub loop-j-preserved : goal.loop-j-preserved
loop-j-preserved c =
    let v = c.loop-j.invariant in
    let k = c.loop-j-test.true in
    let e = c.member.ensures in
    elim c.if-member.branch [
      | then-member w ↦ rw (w.room-is, w.left-is, w.rank-is) (
        walked_next v.0 k e w.if-member.true w.around-c.ensures _ w.difference-left.ensures,
        written_next v.0 k e w.if-member.true w.around-c.ensures v.1 w.put_rank.ensures,
      )
      | else-member w ↦ rw (w.room-is, w.left-is, w.rank-is) (walked_skip v.0 k e w.if-member.false, written_skip v.0 k e w.if-member.false v.1)
    ]

pub shape_of-room : goal.shape_of-room
shape_of-room c = c.loop-j.invariant.1.long

pub returns : goal.returns
returns c = written_end c.loop-j-test.false c.loop-j.invariant.1
