-- `nontrivial_at` reads the part of scratch from a place on.
use Prim.Native.Nat.{ℕ}
use mathlib.Core.Path.{◌∙◌, ap}
use mathlib.Core.List.{List}
use Rattle.bits.specs.Member.{pack}
use Rattle.sets.specs.Words.{sets_in}
use Rattle.sets.proofs.Rows.{words_long}
use Rattle.graph_components.specs.Component.{nontrivial_at}
use Rattle.scratch.proofs.Areas.{part_sets, part_count}
use native.Mathlib.Omega.{arith}
use Rattle.scratch.proofs.nontrivial_at.Goals as goal

pub slice_bounds-nontrivial-count : goal.slice_bounds-nontrivial-count
slice_bounds-nontrivial-count c = omega (arith, words_long c.args.s.now c.args.at (omega arith))

pub slice_bounds-nontrivial-start : goal.slice_bounds-nontrivial-start
slice_bounds-nontrivial-start c = omega (arith, words_long c.args.s.now c.args.at (omega arith))

pub nontrivial-requires : goal.nontrivial-requires
nontrivial-requires c =
    let a = c.args in
    (omega arith, part_count a.at _ _ a.s.now c.words-start.ensures (omega arith), omega arith)

pub returns : goal.returns
returns c =
    let a = c.args in
    let part = part_sets a.at _ a.s.now c.words-start.ensures in
    c.nontrivial.ensures ∙ ap (λ (l : List ℕ). pack a.k (nontrivial_at (sets_in a.moves.now) l a.k)) part
