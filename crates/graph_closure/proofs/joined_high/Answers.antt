-- `joined_high` takes in the rows of the members that are not low, one state after the other.
use Prim.Native.Nat.{ℕ}
use mathlib.Core.Path.{◌≡◌, sym, ◌∙◌, ap}
use mathlib.Core.Bool.{◌||◌}
use Rattle.bits.specs.Member.{has}
use Rattle.sets.specs.Words.{bits_of}
use Rattle.graph_closure.proofs.Growth.{grown_member, grown_other}
use native.Mathlib.Omega.{arith}
use Rattle.graph_closure.proofs.joined_high.Goals as goal
use Rattle.graph_closure.proofs.joined_high.Goals.{then-member_high, else-member_high}

pub loop-t-init : goal.loop-t-init
loop-t-init c = (omega arith, omega arith, λ z e. e)

pub loop-t-preserved : goal.loop-t-preserved
loop-t-preserved c =
    let tested = c.member_high.ensures in (
      omega arith,
      omega arith,
      λ z q. elim c.if-member_high.branch [
        | then-member_high w ↦ ap bits_of w.y-is ∙ grown_member _ _ c.loop-t.t (c.loop-t.invariant.2 z q) (sym tested ∙ w.if-member_high.true)
            (λ u. w.union-y.ensures u ∙ ap (λ (k : ℕ). has (bits_of c.loop-t.y) u || has k u) w.row.ensures)
        | else-member_high w ↦ ap bits_of w.y-is ∙ grown_other _ _ c.loop-t.t (c.loop-t.invariant.2 z q) (sym tested ∙ w.if-member_high.false)
      ],
    )

pub returns : goal.returns
returns c =
    let e : c.loop-t.t ≡ c.args.n = omega arith in
    rw e at c.loop-t.invariant.2
