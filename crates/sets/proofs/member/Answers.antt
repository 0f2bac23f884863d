-- `member` meets its contract.
use mathlib.Core.Path.{sym, ◌∙◌}
use native.Mathlib.Omega.{arith}
use Rattle.sets.specs.Words.{bits_of}
use Rattle.sets.proofs.Pair.{pair_low, pair_from}
use Rattle.sets.proofs.member.Goals as goal

pub returns-then-s-lt64 : goal.returns-then-s-lt64
unfolding bits_of
returns-then-s-lt64 c = c.member.ensures ∙ sym (pair_low _ _ (omega arith) _ (omega arith))

pub returns : goal.returns
unfolding bits_of
returns c = c.member-2.ensures ∙ sym (pair_from _ _ (omega arith) _ (omega arith))
