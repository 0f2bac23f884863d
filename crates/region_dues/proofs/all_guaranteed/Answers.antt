-- `all_guaranteed`.
use native.Mathlib.Omega.{arith}
use mathlib.Core.Path.{◌∙◌, ap}
use Prim.Native.Nat.{ℕ}
use Rattle.finite.proofs.Loops.{all_start, all_turn, all_stop, all_end, failed, passed}
use Rattle.bits.specs.Member.{sets_meet}
use Rattle.sets.specs.Words.{capacity, bits_of}
use Rattle.board.specs.Board.{requirement_on}
use Rattle.region_dues.specs.Dues.{out_meets, out_meets_at, served_by}
use Rattle.region_dues.proofs.all_guaranteed.Goals as goal

pub guaranteed-n-requires : goal.guaranteed-n-requires
guaranteed-n-requires c = c.requires.0

pub loop-j-init : goal.loop-j-init
loop-j-init c = (omega arith, all_start _)

pub guarantee-x-requires : goal.guarantee-x-requires
guarantee-x-requires c =
    let p = c.requires in
    (p.0, omega (arith, c.guaranteed-n.ensures, p.1.guaranteed _ p.0))

pub returns-then-not-meets : goal.returns-then-not-meets
unfolding served_by out_meets out_meets_at
returns-then-not-meets c =
    let a = c.args in
    all_stop _ c.loop-j.j (out_meets_at (requirement_on a.b.now a.r) (bits_of a.c.0)) (omega (arith, c.guaranteed-n.ensures))
    (failed (c.meets.ensures ∙ ap (λ (x : ℕ). sets_meet capacity x (bits_of a.c.0)) c.guarantee-x.ensures) c.if-not-meets.true-raw)

pub loop-j-preserved : goal.loop-j-preserved
unfolding out_meets_at
loop-j-preserved c =
    let a = c.args in (
      omega arith,
      all_turn c.loop-j.j (out_meets_at (requirement_on a.b.now a.r) (bits_of a.c.0)) c.loop-j.invariant.1
          (passed (c.meets.ensures ∙ ap (λ (x : ℕ). sets_meet capacity x (bits_of a.c.0)) c.guarantee-x.ensures) c.if-not-meets.false-raw),
    )

pub returns : goal.returns
unfolding served_by out_meets
returns c =
    all_end _ c.loop-j.j _ (omega (arith, c.guaranteed-n.ensures)) (omega (arith, c.guaranteed-n.ensures)) c.loop-j.invariant.1
