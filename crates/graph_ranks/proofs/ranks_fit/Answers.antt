-- `ranks_fit` reads the next rank for the members of each component that it meets.
use native.Mathlib.Omega.{arith}
use Rattle.game.proofs.Laws.{accepted_fits}
use Rattle.graph_ranks.proofs.Ranks.{reading_start}
use Rattle.graph_ranks.proofs.Walk.{walked_start, walked_small, walked_rank, walked_next, walked_skip, around_ready, members_fit}
use Rattle.graph_ranks.proofs.Walk.{read_next, read_skip, read_end, read_fails}
use Rattle.graph_ranks.proofs.ranks_fit.Goals as goal
use Rattle.graph_ranks.proofs.ranks_fit.Goals.{then-member+else-not-ranked, else-member}

pub crossed-places-requires : goal.crossed-places-requires
crossed-places-requires c = (accepted_fits _ c.requires.0).input.most

pub below-left-requires : goal.below-left-requires
below-left-requires c = (accepted_fits _ c.requires.0).input.most

pub loop-j-init : goal.loop-j-init
loop-j-init c =
    (walked_start _ _ _ c.requires.0 c.crossed-places.ensures c.below-left.ensures, reading_start _ c.args.table.now)

pub member-requires : goal.member-requires
member-requires c = walked_small c.loop-j.invariant.0 c.loop-j-test.true

pub around-c-requires : goal.around-c-requires
around-c-requires c =
    around_ready c.loop-j.invariant.0 c.loop-j-test.true c.member.ensures c.if-member.true

pub ranked-requires : goal.ranked-requires
ranked-requires c =
    members_fit c.loop-j.invariant.0 c.loop-j-test.true c.member.ensures c.if-member.true c.around-c.ensures _ c.requires.1

pub returns-then-not-ranked : goal.returns-then-not-ranked
returns-then-not-ranked c =
    read_fails c.loop-j.invariant.0 c.loop-j-test.true c.member.ensures c.if-member.true c.around-c.ensures _
    c.ranked.ensures c.if-not-ranked.true-raw

pub overflow_add-rank : goal.overflow_add-rank
overflow_add-rank c =
    omega (arith, walked_rank c.loop-j.invariant.0 c.loop-j-test.true)

pub loop-j-smaller : goal.loop-j-smaller
loop-j-smaller c = omega (arith, c.loop-j-test.true)

pub loop-j-preserved : goal.loop-j-preserved
loop-j-preserved c =
    let v = c.loop-j.invariant in
    let k = c.loop-j-test.true in
    let e = c.member.ensures in
    let table = c.args.table.now in
    elim c.if-member.branch [
      | then-member+else-not-ranked w ↦ rw (w.left-is, w.rank-is) (
        walked_next v.0 k e w.if-member.true w.around-c.ensures _ w.difference-left.ensures,
        read_next v.0 k e w.if-member.true w.around-c.ensures table v.1 w.ranked.ensures w.if-not-ranked.false-raw,
      )
      | else-member w ↦ rw (w.left-is, w.rank-is) (walked_skip v.0 k e w.if-member.false, read_skip v.0 k e w.if-member.false table v.1)
    ]

pub returns : goal.returns
returns c = read_end _ c.loop-j.j _ c.loop-j-test.false c.loop-j.invariant.1
