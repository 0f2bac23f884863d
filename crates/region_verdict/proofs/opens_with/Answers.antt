-- `opens_with` tests that o is initial, then that it is won.
use mathlib.Core.Path.{◌∙◌, ap}
use Rattle.finite.proofs.Loops.{failed, passed}
use Rattle.bits.specs.Member.{has}
use Rattle.sets.specs.Words.{bits_of}
use Rattle.game.specs.declared.OutSet.{OutSet}
use Rattle.scratch.proofs.Read.{ready_won}
use Rattle.region_verdict.proofs.Begin.{with_none, with_initial}
use Rattle.region_verdict.proofs.opens_with.Goals as goal

pub returns-then-not-member : goal.returns-then-not-member
returns-then-not-member c =
    let tested = c.member.ensures ∙ ap (λ (x : OutSet). has (bits_of x.0) c.args.o.0) c.out_initial-initial.ensures in
    with_none _ _ _ (failed tested c.if-not-member.true-raw)

pub returns : goal.returns
returns c =
    let p = c.requires in
    let tested = c.member.ensures ∙ ap (λ (x : OutSet). has (bits_of x.0) c.args.o.0) c.out_initial-initial.ensures in
    with_initial _ _ _ (passed tested c.if-not-member.false-raw) (c.won.ensures ∙ ready_won p.0 _ _ p.1 p.2)
