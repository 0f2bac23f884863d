-- `shrink`.
use Prim.Native.Nat.{ℕ}
use mathlib.Core.Path.{refl, sym, ◌∙◌, ap}
use lib.ListN.{length}
use native.Mathlib.Omega.{arith}
use Rattle.bits.specs.Member.{has}
use Rattle.sets.proofs.Rows.{count_same}
use Rattle.barred_stay.proofs.Rows.{shrunk_none, shrunk_skip, shrunk_next, shrunk_end}
use Rattle.barred_stay.proofs.shrink.Goals as goal
use Rattle.barred_stay.proofs.shrink.Goals.{then-member, else-member}

pub loop-i-init : goal.loop-i-init
loop-i-init c = (omega arith, refl, shrunk_none _ _ _ _ _ _)

pub shrink_row-more-requires : goal.shrink_row-more-requires
shrink_row-more-requires c = (
  omega arith,
  omega (arith, c.requires.2, count_same c.loop-i.s c.args.s.now c.loop-i.invariant.1),
)

pub loop-i-preserved : goal.loop-i-preserved
loop-i-preserved c =
    let in_row = c.member.ensures ∙ ap (λ (y : ℕ). has y c.args.j.0) c.row_of.ensures.1 in
    elim c.if-member.branch [
      | then-member w ↦ (
        omega arith,
        ap length w.s-is ∙ w.shrink_row-more.auto.s ∙ c.loop-i.invariant.1,
        rw (w.s-is, w.more-is) (shrunk_next _ _ _ _ _ _ c.loop-i.i _ _ c.loop-i.invariant.2 _ _ (sym in_row ∙ w.if-member.true) w.shrink_row-more.ensures),
      )
      | else-member w ↦ (
        omega arith,
        ap length w.s-is ∙ c.loop-i.invariant.1,
        rw (w.s-is, w.more-is) (shrunk_skip _ _ _ _ _ _ c.loop-i.i _ _ c.loop-i.invariant.2 (sym in_row ∙ w.if-member.false)),
      )
    ]

pub shape_of-s : goal.shape_of-s
shape_of-s c = c.loop-i.invariant.1

pub returns : goal.returns
returns c = shrunk_end _ c.loop-i.i _ _ _ _ _ _ _ _ (omega arith) (omega arith) c.loop-i.invariant.2
