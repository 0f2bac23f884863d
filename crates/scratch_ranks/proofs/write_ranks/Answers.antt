-- `write_ranks` gives the next rank to a leader, and to any other input the rank of its leader.
use mathlib.Core.Path.{refl}
use native.Mathlib.Omega.{arith}
use Rattle.finite.specs.Bounded.{count}
use Rattle.finite.proofs.Bounded.{count_le}
use Rattle.play.specs.Play.{separated_of}
use Rattle.compact.specs.Rank.{leads}
use Rattle.graph_ranks.proofs.Ranks.{count_next, count_skip}
use Rattle.scratch_ranks.proofs.Written.{passed_start, passed_next, passed_end, ranked_start, ranked_next, ranked_end, first_below, first_lower, first_rank, led_rank, leads_here, leads_not}
use Rattle.scratch_ranks.proofs.write_ranks.Goals as goal
use Rattle.scratch_ranks.proofs.write_ranks.Goals.{then-j-i, else-j-i}

pub loop-i-init : goal.loop-i-init
unfolding count
loop-i-init c = (omega arith, passed_start _ _ _ c.empty.ensures.1, refl, ranked_start _ _)

pub first_of-first-requires : goal.first_of-first-requires
first_of-first-requires c =
    let p = c.requires in
    (p.0, p.1, c.loop-i-test.true, c.loop-i.invariant.1)

pub in_reach-row-requires : goal.in_reach-row-requires
in_reach-row-requires c =
    let p = c.requires in
    omega (arith, p.1.long, first_below c.args.g _ _ c.loop-i-test.true c.first_of-first.ensures)

pub insert-requires : goal.insert-requires
insert-requires c =
    let p = c.requires in
    omega (arith, p.0, first_below c.args.g _ _ c.loop-i-test.true c.first_of-first.ensures)

pub overflow_add-room : goal.overflow_add-room
overflow_add-room c =
    omega (arith, c.requires.2, c.loop-i.invariant.3.long)

pub offset_bounds-room-n : goal.offset_bounds-room-n
offset_bounds-room-n c =
    omega (arith, c.requires.2, c.loop-i.invariant.3.long)

pub bounds-room-n : goal.bounds-room-n
bounds-room-n c =
    omega (arith, c.requires.2, c.loop-i.invariant.3.long)

pub overflow_add-rank : goal.overflow_add-rank
overflow_add-rank c =
    omega (arith, c.requires.0, c.loop-i.invariant.2, count_le c.loop-i.i (leads (separated_of c.args.g)))

pub overflow_add-room-else-j-i : goal.overflow_add-room-else-j-i
overflow_add-room-else-j-i c =
    omega (arith, c.requires.2, c.loop-i.invariant.3.long, first_below c.args.g _ _ c.loop-i-test.true c.first_of-first.ensures)

pub offset_bounds-room-n-else-j-i : goal.offset_bounds-room-n-else-j-i
offset_bounds-room-n-else-j-i c =
    omega (arith, c.requires.2, c.loop-i.invariant.3.long, first_below c.args.g _ _ c.loop-i-test.true c.first_of-first.ensures)

pub bounds-room-n-else-j-i : goal.bounds-room-n-else-j-i
bounds-room-n-else-j-i c =
    omega (arith, c.requires.2, c.loop-i.invariant.3.long, first_below c.args.g _ _ c.loop-i-test.true c.first_of-first.ensures)

pub overflow_add-room-else-j-i-2 : goal.overflow_add-room-else-j-i-2
overflow_add-room-else-j-i-2 c =
    omega (arith, c.requires.0, c.loop-i-test.true)

pub offset_bounds-room-n-else-j-i-2 : goal.offset_bounds-room-n-else-j-i-2
offset_bounds-room-n-else-j-i-2 c =
    omega (arith, c.requires.0, c.loop-i-test.true)

pub bounds-room-n-else-j-i-2 : goal.bounds-room-n-else-j-i-2
bounds-room-n-else-j-i-2 c =
    omega (arith, c.requires.2, c.loop-i.invariant.3.long, first_below c.args.g _ _ c.loop-i-test.true c.first_of-first.ensures)

pub loop-i-smaller : goal.loop-i-smaller
loop-i-smaller c = omega (arith, c.loop-i-test.true)

pub loop-i-preserved : goal.loop-i-preserved
loop-i-preserved c =
    let p = c.requires in
    let I = c.loop-i.invariant in
    let k = c.loop-i-test.true in
    let e = c.first_of-first.ensures in
    let P = passed_next _ _ _ k e _ p.1 _ _ I.1 _ _ _ c.insert.ensures c.union.ensures c.in_reach-row.ensures in
    elim c.if-j-i.branch [
      | then-j-i v ↦ rw (v.room-is, v.rank-is) (
        omega (arith, k),
        P,
        count_next _ _ _ I.2 (leads_here _ _ _ k e v.if-j-i.true),
        ranked_next _ _ _ _ _ k p.2 I.3 (first_rank _ _ _ k e _ I.2 v.if-j-i.true),
      )
      | else-j-i v ↦
          let h = first_lower _ _ _ k e _ p.1 _ _ I.1 v.if-j-i.false in
          rw (v.room-is, v.rank-is) (
            omega (arith, k),
            P,
            count_skip _ _ _ I.2 (leads_not _ _ _ k e h),
            ranked_next _ _ _ _ _ k p.2 I.3 (led_rank _ _ _ k e _ _ I.3 h),
          )
    ]

pub shape_of-room : goal.shape_of-room
shape_of-room c = c.loop-i.invariant.3.long

pub returns : goal.returns
returns c =
    let I = c.loop-i.invariant in
    (ranked_end _ _ _ _ c.loop-i-test.false I.3, passed_end _ _ _ _ (omega (arith, I.0, c.loop-i-test.false)) I.1)
