-- `due`.
use native.Mathlib.Omega.{arith}
use Rattle.finite.proofs.Loops.{all_start, all_turn, all_stop, all_end, failed, passed}
use Rattle.sets.specs.Words.{bits_of}
use Rattle.game.specs.Access.{requirement_at}
use Rattle.region_dues.specs.Dues.{due_in, in_meets, in_meets_at}
use Rattle.ground_search.proofs.due.Goals as goal

pub loop-j-init : goal.loop-j-init
unfolding due_in in_meets in_meets_at
loop-j-init c = (c.requires.0.assumed c.args.r c.requires.1, omega arith, all_start _)

pub returns-then-not-meets : goal.returns-then-not-meets
unfolding due_in in_meets in_meets_at
returns-then-not-meets c =
    let a = c.args in
    all_stop _ c.loop-j.j (in_meets_at (requirement_at a.g a.r) (bits_of a.a.0)) (omega arith) (failed c.meets.ensures c.if-not-meets.true-raw)

pub loop-j-preserved : goal.loop-j-preserved
unfolding due_in in_meets in_meets_at
loop-j-preserved c =
    let a = c.args in
    let met = passed c.meets.ensures c.if-not-meets.false-raw in
    (c.loop-j.invariant.0, omega arith, all_turn c.loop-j.j (in_meets_at (requirement_at a.g a.r) (bits_of a.a.0)) c.loop-j.invariant.2 met)

pub returns : goal.returns
unfolding due_in in_meets in_meets_at
returns c = all_end _ c.loop-j.j _ (omega arith) (omega arith) c.loop-j.invariant.2
