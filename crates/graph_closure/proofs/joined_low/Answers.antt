-- `joined_low` takes in the rows of the members, one state after the other.
use Prim.Native.Nat.{ℕ}
use mathlib.Core.Path.{◌≡◌, sym, ◌∙◌, ap}
use mathlib.Core.Bool.{◌||◌}
use Rattle.bits.specs.Member.{has}
use Rattle.sets.specs.Words.{bits_of}
use Rattle.graph_closure.proofs.Growth.{grown_start, grown_member, grown_other}
use native.Mathlib.Omega.{arith}
use Rattle.graph_closure.proofs.joined_low.Goals as goal
use Rattle.graph_closure.proofs.joined_low.Goals.{then-member_low, else-member_low}

pub loop-t-init : goal.loop-t-init
loop-t-init c = (omega arith, grown_start _ _)

pub loop-t-preserved : goal.loop-t-preserved
loop-t-preserved c =
    let tested = c.member_low.ensures in (
      omega arith,
      elim c.if-member_low.branch [
        | then-member_low w ↦ ap bits_of w.y-is ∙ grown_member _ _ c.loop-t.t c.loop-t.invariant.1 (sym tested ∙ w.if-member_low.true)
            (λ u. w.union-y.ensures u ∙ ap (λ (k : ℕ). has (bits_of c.loop-t.y) u || has k u) w.row.ensures)
        | else-member_low w ↦ ap bits_of w.y-is ∙ grown_other _ _ c.loop-t.t c.loop-t.invariant.1 (sym tested ∙ w.if-member_low.false)
      ],
    )

pub returns : goal.returns
returns c =
    let e : c.loop-t.t ≡ c.args.n = omega arith in
    rw e at c.loop-t.invariant.1
