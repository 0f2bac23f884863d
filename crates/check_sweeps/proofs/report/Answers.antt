-- `report` closes a graph of n states in words for as many sets.
use Rattle.sets.proofs.Rows.{words_held}
use native.Mathlib.Omega.{arith}
use Rattle.check_sweeps.proofs.report.Goals as goal

pub close-sweeps-requires : goal.close-sweeps-requires
close-sweeps-requires c = (omega arith, words_held _ _ (omega arith), words_held _ _ (omega arith))
