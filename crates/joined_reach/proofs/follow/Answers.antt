-- `follow`.
use Prim.Native.Nat.{◌^◌, ◌<◌}
use mathlib.Core.Path.{◌∙◌}
use lib.ListN.{length-set}
use native.Mathlib.Nat.{zero-add}
use native.Mathlib.Omega.{arith}
use Rattle.joined_reach.proofs.Rows.{follow_below, follow_within, followed}
use borrow.Author.Rules.{rules}
use Rattle.joined_reach.proofs.follow.Goals as goal

pub offset_bounds-s-r : goal.offset_bounds-s-r
offset_bounds-s-r c =
    let below : c.lowest-r.result < c.args.g.input.states = follow_below _ c.requires.0 _ _ c.requires.3 (search rules) c.requires.2 _ c.lowest-r.ensures in
    let few : c.lowest-r.result < 32 = omega (arith, below, c.requires.0.inputs) in
    omega (arith, few)

pub bounds-s-r : goal.bounds-s-r
bounds-s-r c =
    let below : c.lowest-r.result < c.args.g.input.states = follow_below _ c.requires.0 _ _ c.requires.3 (search rules) c.requires.2 _ c.lowest-r.ensures in
    let few : c.lowest-r.result < 32 = omega (arith, below, c.requires.0.inputs) in
    omega (arith, few)

pub overflow_add-r : goal.overflow_add-r
overflow_add-r c =
    let below : c.lowest-r.result < c.args.g.input.states = follow_below _ c.requires.0 _ _ c.requires.3 (search rules) c.requires.2 _ c.lowest-r.ensures in
    let few : c.lowest-r.result < 32 = omega (arith, below, c.requires.0.inputs) in
    omega (arith, few)

pub offset_bounds-s-r-2 : goal.offset_bounds-s-r-2
offset_bounds-s-r-2 c =
    let below : c.lowest-r.result < c.args.g.input.states = follow_below _ c.requires.0 _ _ c.requires.3 (search rules) c.requires.2 _ c.lowest-r.ensures in
    let few : c.lowest-r.result < 32 = omega (arith, below, c.requires.0.inputs) in
    omega (arith, few)

pub bounds-s-r-2 : goal.bounds-s-r-2
bounds-s-r-2 c =
    let below : c.lowest-r.result < c.args.g.input.states = follow_below _ c.requires.0 _ _ c.requires.3 (search rules) c.requires.2 _ c.lowest-r.ensures in
    let few : c.lowest-r.result < 32 = omega (arith, below, c.requires.0.inputs) in
    omega (arith, few)

pub next_outputs-y-requires : goal.next_outputs-y-requires
next_outputs-y-requires c =
    let small : c.args.waiting.0 < 2 ^ 64 = search rules in (
      c.requires.0,
      follow_within _ c.requires.0 _ _ c.requires.3 (small) c.requires.2 _ c.lowest-r.ensures c.requires.1 _ (simp zero-add at
          c.difference-new.ensures),
      c.requires.5,
    )

pub overflow_add-s : goal.overflow_add-s
overflow_add-s c =
    let below : c.lowest-r.result < c.args.g.input.states = follow_below _ c.requires.0 _ _ c.requires.3 (search rules) c.requires.2 _ c.lowest-r.ensures in
    let few : c.lowest-r.result < 32 = omega (arith, below, c.requires.0.inputs) in
    omega (arith, few)

pub offset_bounds-s-r-3 : goal.offset_bounds-s-r-3
offset_bounds-s-r-3 c =
    let below : c.lowest-r.result < c.args.g.input.states = follow_below _ c.requires.0 _ _ c.requires.3 (search rules) c.requires.2 _ c.lowest-r.ensures in
    let few : c.lowest-r.result < 32 = omega (arith, below, c.requires.0.inputs) in
    omega (arith, few)

pub bounds-s-r-3 : goal.bounds-s-r-3
bounds-s-r-3 c =
    let below : c.lowest-r.result < c.args.g.input.states = follow_below _ c.requires.0 _ _ c.requires.3 (search rules) c.requires.2 _ c.lowest-r.ensures in
    let few : c.lowest-r.result < 32 = omega (arith, below, c.requires.0.inputs) in
    omega (arith, few)

pub enter-requires : goal.enter-requires
enter-requires c =
    let below : c.lowest-r.result < c.args.g.input.states = follow_below _ c.requires.0 _ _ c.requires.3 (search rules) c.requires.2 _ c.lowest-r.ensures in
    (c.requires.0, below, simp length-set c.requires.1, c.requires.4)

pub shape_of-s : goal.shape_of-s
shape_of-s c = c.enter.ensures.kept.long ∙ simp length-set

pub returns : goal.returns
returns c =
    let small : c.args.waiting.0 < 2 ^ 64 = search rules in
    followed _ c.requires.0 _ _ c.requires.3 (small) c.requires.2 _ c.lowest-r.ensures c.requires.1 c.difference-new.result
    (simp zero-add at c.difference-new.ensures) _ _ _ _ c.next_outputs-y.ensures c.without_lowest-rest.ensures
    (simp zero-add at c.enter.ensures)
