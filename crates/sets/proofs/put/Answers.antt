-- `put` meets its contract.
use native.Mathlib.Omega.{arith}
use lib.ListN.{length-set}
use Rattle.sets.specs.Words.{bits_of, set_count}
use Rattle.sets.proofs.Rows.{pair_put}
use borrow.Author.Rules.{rules}
use Rattle.sets.proofs.put.Goals as goal

pub overflow_mul-l : goal.overflow_mul-l
unfolding set_count
overflow_mul-l c = search rules

pub offset_bounds-l-s : goal.offset_bounds-l-s
unfolding set_count
offset_bounds-l-s c = search rules

pub bounds-l-s : goal.bounds-l-s
unfolding set_count
bounds-l-s c = search rules

pub overflow_mul-l-2 : goal.overflow_mul-l-2
unfolding set_count
overflow_mul-l-2 c = search rules

pub overflow_add-l : goal.overflow_add-l
unfolding set_count
overflow_add-l c = search rules

pub offset_bounds-l-s-2 : goal.offset_bounds-l-s-2
unfolding set_count
offset_bounds-l-s-2 c = search rules

pub bounds-l-s-2 : goal.bounds-l-s-2
unfolding set_count
bounds-l-s-2 c = simp length-set (omega arith)

pub returns : goal.returns
unfolding bits_of set_count
returns c = pair_put _ _ _ _ (omega arith)
