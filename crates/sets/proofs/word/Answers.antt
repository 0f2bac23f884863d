-- `word`.
use native.Mathlib.Omega.{arith}
use Rattle.sets.proofs.Rows.{low_word}
use Rattle.sets.proofs.word.Goals as goal

pub returns : goal.returns
returns c = low_word _ (omega arith) c.requires
