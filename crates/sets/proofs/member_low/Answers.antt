-- `member_low`: one word.
use mathlib.Core.Path.{sym, ◌∙◌}
use native.Mathlib.Omega.{arith}
use Rattle.sets.specs.Words.{bits_of}
use Rattle.sets.proofs.Pair.{pair_low}
use Rattle.sets.proofs.member_low.Goals as goal

pub returns : goal.returns
unfolding bits_of
returns c = c.member.ensures ∙ sym (pair_low _ _ (omega arith) _ (omega arith))
