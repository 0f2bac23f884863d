-- `opens_if` tests that i is initial first.
use mathlib.Core.Path.{◌∙◌, ap}
use Rattle.finite.proofs.Loops.{failed, passed}
use Rattle.bits.specs.Member.{has}
use Rattle.sets.specs.Words.{bits_of}
use Rattle.game.specs.declared.InSet.{InSet}
use Rattle.region_verdict.proofs.Begin.{if_not, if_initial}
use Rattle.region_verdict.proofs.opens_if.Goals as goal

pub returns-then-not-member : goal.returns-then-not-member
returns-then-not-member c =
    let tested = c.member.ensures ∙ ap (λ (x : InSet). has (bits_of x.0) c.args.i.0) c.in_initial-initial.ensures in
    if_not _ _ (failed tested c.if-not-member.true-raw)

pub returns : goal.returns
returns c =
    let tested = c.member.ensures ∙ ap (λ (x : InSet). has (bits_of x.0) c.args.i.0) c.in_initial-initial.ensures in
    if_initial _ _ (passed tested c.if-not-member.false-raw) c.opens.ensures
