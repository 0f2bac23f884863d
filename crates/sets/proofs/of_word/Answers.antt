-- `of_word`.
use native.Mathlib.Omega.{arith}
use Rattle.sets.proofs.Rows.{word_low}
use Rattle.sets.proofs.of_word.Goals as goal

pub returns : goal.returns
returns c = word_low _ (omega arith)
