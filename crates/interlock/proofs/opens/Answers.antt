-- `opens`.
use mathlib.Core.Path.{◌≡◌, refl, sym, ◌∙◌, ap, ap₂}
use mathlib.Core.Bool.{true, false}
use Rattle.finite.proofs.Truth.{not_true, not_false}
use Rattle.bits.specs.Member.{has, sets_meet}
use Rattle.sets.specs.Words.{capacity, bits_of}
use Rattle.game.specs.declared.InSet.{InSet}
use Rattle.game.specs.declared.OutSet.{OutSet}
use Rattle.interlock.specs.Bars.{opens_row}
use Rattle.interlock.proofs.opens.Goals as goal

pub returns-then-not-member : goal.returns-then-not-member
unfolding opens_row
returns-then-not-member c =
    let e : has (bits_of c.args.g.input.initial) c.args.i.0 ≡ false =
    ap (λ (x : InSet). has (bits_of x.0) c.args.i.0) (sym c.in_initial-first.ensures) ∙ sym c.member.ensures ∙ not_true _ c.if-not-member.true-raw in
    rw e refl

pub returns : goal.returns
unfolding opens_row
returns c =
    let e : has (bits_of c.args.g.input.initial) c.args.i.0 ≡ true =
    ap (λ (x : InSet). has (bits_of x.0) c.args.i.0) (sym c.in_initial-first.ensures) ∙ sym c.member.ensures ∙ not_false _ c.if-not-member.false-raw in
    rw e (c.meets.ensures ∙ ap₂ (sets_meet capacity) (ap (λ (x : OutSet). bits_of x.0) c.out_initial-initial.ensures) c.row.ensures)
