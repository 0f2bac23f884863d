-- `lengths_fit` looks at the lengths of all eight places.
use mathlib.Core.Path.{◌∙◌}
use mathlib.Core.Bool.{true}
use native.Mathlib.Omega.{arith}
use Rattle.finite.proofs.Loops.{all_start, all_turn, failed, passed}
use Rattle.game.proofs.Steps.{lengths_stop, lengths_end, few_at}
use Rattle.acceptance.proofs.lengths_fit.Goals as goal

pub loop-p-init : goal.loop-p-init
loop-p-init c = (omega arith, all_start _)

pub returns-then-not-few_sets : goal.returns-then-not-few_sets
returns-then-not-few_sets c = lengths_stop _ _ c.loop-p-test.true (failed (c.few_sets.ensures ∙ few_at _ _) c.if-not-few_sets.true-raw)

pub loop-p-preserved : goal.loop-p-preserved
loop-p-preserved c = (omega arith, all_turn _ _ c.loop-p.invariant.1 (passed (c.few_sets.ensures ∙ few_at _ _) c.if-not-few_sets.false-raw))

pub returns : goal.returns
returns c = lengths_end _ _ c.loop-p.invariant.0 c.loop-p-test.false c.loop-p.invariant.1
