-- `among` goes through the inputs, with the column of the next leader.
use Prim.Native.Nat.{ℕ}
use mathlib.Core.Path.{sym, ◌∙◌, ap}
use native.Mathlib.Omega.{arith}
use Rattle.finite.proofs.Bounded.{count_le}
use Rattle.bits.specs.Member.{has}
use Rattle.bits.proofs.Membership.{has_zero_lem}
use Rattle.controller_rows.specs.Writes.{leading}
use Rattle.controller_rows.proofs.Columns.{among_none, among_fits, among_hit, among_miss, among_end}
use Rattle.controller_rows.proofs.leaders.among.Goals as goal
use Rattle.controller_rows.proofs.leaders.among.Goals.{then-member, else-member}

pub loop-j-init : goal.loop-j-init
loop-j-init c = among_none _ c.requires.1 _ (λ k. ap (λ (x : ℕ). has x k) c.empty-r.ensures.1 ∙ has_zero_lem k)

pub insert_if-r-requires : goal.insert_if-r-requires
insert_if-r-requires c =
    let p = c.requires in
    let a = c.args.z in
    omega (
      arith,
      p.0,
      p.1,
      count_le a.inputs (leading a),
      among_fits _ p.1 _ _ _ _ c.loop-j.invariant c.loop-j-test.true (sym c.member.ensures ∙ c.if-member.true),
    )

pub overflow_add-b : goal.overflow_add-b
overflow_add-b c =
    let p = c.requires in
    let a = c.args.z in
    omega (
      arith,
      p.0,
      p.1,
      count_le a.inputs (leading a),
      among_fits _ p.1 _ _ _ _ c.loop-j.invariant c.loop-j-test.true (sym c.member.ensures ∙ c.if-member.true),
    )

pub loop-j-preserved : goal.loop-j-preserved
loop-j-preserved c =
    let p = c.requires in
    elim c.if-member.branch [
      | then-member w ↦ rw (w.r-is, w.b-is)
          (among_hit _ p.1 _ _ _ _ c.loop-j.invariant c.loop-j-test.true (sym c.member.ensures ∙ w.if-member.true) _ w.member-then-member.ensures w.insert_if-r.ensures)
      | else-member w ↦ rw (w.r-is, w.b-is) (among_miss _ p.1 _ _ _ _ c.loop-j.invariant c.loop-j-test.true (sym c.member.ensures ∙ w.if-member.false))
    ]

pub returns : goal.returns
returns c =
    let p = c.requires in
    among_end _ p.1 _ _ _ _ c.loop-j.invariant c.loop-j-test.false
