-- `fault`.
use native.Mathlib.Omega.{arith}
use Rattle.finite.proofs.Loops.{failed, passed}
use Rattle.game.proofs.Laws.{accepted_fits}
use Rattle.interlock.proofs.Answers.{fault_outside, fault_many, fault_bars, fault_scratch, fault_none}
use Rattle.interlock.proofs.fault.Goals as goal

pub returns-then-not-bars_inside : goal.returns-then-not-bars_inside
returns-then-not-bars_inside c = fault_outside _ _ _ (failed c.bars_inside.ensures c.if-not-bars_inside.true-raw)

pub returns-then-not-one_requirement : goal.returns-then-not-one_requirement
returns-then-not-one_requirement c =
    fault_many _ _ _ (passed c.bars_inside.ensures c.if-not-bars_inside.false-raw) (failed c.one_requirement.ensures c.if-not-one_requirement.true-raw)

pub words-requires : goal.words-requires
words-requires c =
    let F = accepted_fits _ c.requires in
    omega (arith, F.input.most)

pub returns-then-bars-words : goal.returns-then-bars-words
returns-then-bars-words c =
    fault_bars _ _ _ (passed c.bars_inside.ensures c.if-not-bars_inside.false-raw) (passed c.one_requirement.ensures c.if-not-one_requirement.false-raw)
    (omega (arith, c.words.ensures, c.if-bars-words.true))

pub returns-then-words-lt-WORDS : goal.returns-then-words-lt-WORDS
returns-then-words-lt-WORDS c =
    fault_scratch _ _ _ (passed c.bars_inside.ensures c.if-not-bars_inside.false-raw) (passed c.one_requirement.ensures c.if-not-one_requirement.false-raw)
    (omega (arith, c.words.ensures, c.if-bars-words.false)) c.if-words-lt-WORDS.true

pub returns : goal.returns
returns c =
    fault_none _ _ _ (passed c.bars_inside.ensures c.if-not-bars_inside.false-raw) (passed c.one_requirement.ensures c.if-not-one_requirement.false-raw)
    (omega (arith, c.words.ensures, c.if-bars-words.false)) (omega (arith, c.if-words-lt-WORDS.false))
