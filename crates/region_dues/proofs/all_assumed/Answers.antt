-- `all_assumed`.
use native.Mathlib.Omega.{arith}
use mathlib.Core.Path.{◌∙◌, ap}
use Prim.Native.Nat.{ℕ}
use Rattle.finite.proofs.Loops.{all_start, all_turn, all_stop, all_end, failed, passed}
use Rattle.bits.specs.Member.{sets_meet}
use Rattle.sets.specs.Words.{capacity, bits_of}
use Rattle.board.specs.Board.{requirement_on}
use Rattle.region_dues.specs.Dues.{in_meets, in_meets_at, due_by}
use Rattle.region_dues.proofs.all_assumed.Goals as goal

pub assumed-n-requires : goal.assumed-n-requires
assumed-n-requires c = c.requires.0

pub loop-j-init : goal.loop-j-init
loop-j-init c = (omega arith, all_start _)

pub assumption-x-requires : goal.assumption-x-requires
assumption-x-requires c =
    let p = c.requires in
    (p.0, omega (arith, c.assumed-n.ensures, p.1.assumed _ p.0))

pub returns-then-not-meets : goal.returns-then-not-meets
unfolding due_by in_meets in_meets_at
returns-then-not-meets c =
    let a = c.args in
    all_stop _ c.loop-j.j (in_meets_at (requirement_on a.b.now a.r) (bits_of a.c.0)) (omega (arith, c.assumed-n.ensures))
    (failed (c.meets.ensures ∙ ap (λ (x : ℕ). sets_meet capacity x (bits_of a.c.0)) c.assumption-x.ensures) c.if-not-meets.true-raw)

pub loop-j-preserved : goal.loop-j-preserved
unfolding in_meets_at
loop-j-preserved c =
    let a = c.args in (
      omega arith,
      all_turn c.loop-j.j (in_meets_at (requirement_on a.b.now a.r) (bits_of a.c.0)) c.loop-j.invariant.1
          (passed (c.meets.ensures ∙ ap (λ (x : ℕ). sets_meet capacity x (bits_of a.c.0)) c.assumption-x.ensures) c.if-not-meets.false-raw),
    )

pub returns : goal.returns
unfolding due_by in_meets
returns c =
    all_end _ c.loop-j.j _ (omega (arith, c.assumed-n.ensures)) (omega (arith, c.assumed-n.ensures)) c.loop-j.invariant.1
