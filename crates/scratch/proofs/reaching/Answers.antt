-- `reaching` collects the outputs below o.
use Prim.Native.Nat.{ℕ}
use mathlib.Core.Path.{◌∙◌, ap}
use Rattle.bits.specs.Member.{sets_meet}
use Rattle.bits.proofs.Collect.{collect_none, collect_next, collect_end}
use Rattle.sets.specs.Words.{capacity, bits_of}
use Rattle.scratch.specs.Stored.{reaching_at}
use native.Mathlib.Omega.{arith}
use Rattle.scratch.proofs.reaching.Goals as goal

pub loop-o-init : goal.loop-o-init
loop-o-init c = (omega arith, c.empty-y.ensures.1 ∙ collect_none _)

pub loop-o-preserved : goal.loop-o-preserved
unfolding reaching_at
loop-o-preserved c =
    let read = ap (λ (z : ℕ). sets_meet capacity (bits_of c.args.x.0) z) c.out_reach-reach.ensures in
    (omega arith, collect_next _ c.loop-o.o _ _ _ c.loop-o.invariant.1 (c.meets.ensures ∙ read) c.insert_if-y.ensures)

pub returns : goal.returns
returns c = collect_end _ c.loop-o.o _ _ (omega arith) (omega arith) c.loop-o.invariant.1
