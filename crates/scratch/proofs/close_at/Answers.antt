-- `close_at` works on the part of scratch from a place on.
use Rattle.sets.proofs.Rows.{words_long}
use Rattle.scratch.proofs.Areas.{closed_at, part_count}
use native.Mathlib.Omega.{arith}
use Rattle.scratch.proofs.close_at.Goals as goal

pub slice_bounds-close-count : goal.slice_bounds-close-count
slice_bounds-close-count c = omega (arith, words_long c.args.s.now c.args.at (omega arith))

pub slice_bounds-close-start : goal.slice_bounds-close-start
slice_bounds-close-start c = omega (arith, words_long c.args.s.now c.args.at (omega arith))

pub close-requires : goal.close-requires
close-requires c =
    let a = c.args in
    (omega arith, part_count a.at _ _ a.s.now c.words-start.ensures (omega arith), omega arith)

pub returns : goal.returns
returns c =
    λ f G. closed_at f _ _ _ _ c.words-start.ensures (omega arith) (c.close.ensures f G)
