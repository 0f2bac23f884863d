-- `answering`.
use Prim.Native.Nat.{ℕ}
use mathlib.Core.Path.{◌∙◌, ap}
use Rattle.bits.specs.Member.{sets_meet}
use Rattle.bits.proofs.Collect.{collect_none, collect_next, collect_end}
use Rattle.sets.specs.Words.{capacity, bits_of}
use native.Mathlib.Omega.{arith}
use Rattle.barred_stay.proofs.answering.Goals as goal

pub loop-o-init : goal.loop-o-init
loop-o-init c = (omega arith, c.empty-c.ensures.1 ∙ collect_none _)

pub loop-o-preserved : goal.loop-o-preserved
loop-o-preserved c =
    let met = c.meets.ensures ∙ ap (λ (y : ℕ). sets_meet capacity y (bits_of c.args.x.0)) c.row_of.ensures.1 in
    (omega arith, collect_next _ c.loop-o.o _ _ _ c.loop-o.invariant.1 met c.insert_if-c.ensures)

pub returns : goal.returns
returns c = collect_end _ c.loop-o.o _ _ (omega arith) (omega arith) c.loop-o.invariant.1
