-- `out_component` reads the part of scratch that holds the outputs' closure.
use Prim.Native.Nat.{ℕ, ◌+◌}
use mathlib.Core.Path.{◌∙◌, ap}
use mathlib.Core.List.{List}
use Rattle.bits.specs.Member.{pack}
use Rattle.sets.proofs.Rows.{words_long}
use Rattle.graph_components.specs.Component.{together}
use Rattle.scratch.specs.Stored.{out_area}
use Rattle.scratch.proofs.Areas.{part_sets, part_count}
use native.Mathlib.Omega.{arith}
use Rattle.scratch.proofs.out_component.Goals as goal

pub slice_bounds-component-count : goal.slice_bounds-component-count
slice_bounds-component-count c = omega (arith, words_long c.args.s.now (c.args.n + c.args.n) (omega arith))

pub slice_bounds-component-start : goal.slice_bounds-component-start
slice_bounds-component-start c = omega (arith, words_long c.args.s.now (c.args.n + c.args.n) (omega arith))

pub component-requires : goal.component-requires
unfolding out_area
component-requires c =
    let a = c.args in
    let w = c.words-at.ensures in (
      omega arith,
      omega arith,
      part_count (a.n + a.n) _ a.m a.s.now w (omega arith),
      rw (part_sets (a.n + a.n) _ a.s.now w) c.requires.4,
    )

pub returns : goal.returns
unfolding out_area
returns c =
    let a = c.args in
    let part = part_sets (a.n + a.n) _ a.s.now c.words-at.ensures in
    c.component.ensures ∙ ap (λ (l : List ℕ). pack a.m (together l a.o.0)) part
