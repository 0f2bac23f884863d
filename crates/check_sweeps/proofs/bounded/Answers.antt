-- `bounded` closes a graph of n states in words for as many sets.
use Rattle.sets.proofs.Rows.{words_held}
use native.Mathlib.Omega.{arith}
use Rattle.check_sweeps.proofs.bounded.Goals as goal

pub close-requires : goal.close-requires
close-requires c = (omega arith, words_held _ _ (omega arith), words_held _ _ (omega arith))
