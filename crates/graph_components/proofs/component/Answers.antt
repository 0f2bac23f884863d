-- `component` gathers the states that lead back. Invariant: of the states that `pruned` has left, those outside `rest` that lead back are gathered.
use Prim.Native.Nat.{◌<◌}
use mathlib.Core.Path.{sym, ◌∙◌}
use mathlib.Core.Logic.{◌≢◌}
use Rattle.bits.proofs.Visit.{collected_below, collected_falls}
use Rattle.sets.specs.Words.{capacity, bits_of}
use Rattle.sets.proofs.Rows.{some, none}
use Rattle.graph_components.proofs.Pruning.{gathered_start, gathered_hit, gathered_miss, gathered_falls, gathered_end}
use native.Mathlib.Omega.{arith}
use Rattle.graph_components.proofs.component.Goals as goal

pub loop-rest-init : goal.loop-rest-init
loop-rest-init c =
    gathered_start _ _ c.args.s _ _ c.pruned-rest.ensures c.requires.0 c.empty-c.ensures.1

pub row-row-requires : goal.row-row-requires
row-row-requires c =
    let some_left : bits_of c.loop-rest.rest ≢ 0 = some _ c.is_empty.ensures c.loop-rest-test.true in
    let below : c.lowest-t.result < c.args.n = collected_below capacity _ _ _ (bits_of c.loop-rest.rest) (bits_of c.loop-rest.c) c.loop-rest.invariant (some_left) _ c.lowest-t.ensures in
    omega (arith, below)

pub without_lowest-rest-requires : goal.without_lowest-rest-requires
without_lowest-rest-requires c =
    let some_left : bits_of c.loop-rest.rest ≢ 0 = some _ c.is_empty.ensures c.loop-rest-test.true in
    some_left

pub insert-c-requires : goal.insert-c-requires
insert-c-requires c =
    let some_left : bits_of c.loop-rest.rest ≢ 0 = some _ c.is_empty.ensures c.loop-rest-test.true in
    let below : c.lowest-t.result < c.args.n = collected_below capacity _ _ _ (bits_of c.loop-rest.rest) (bits_of c.loop-rest.c) c.loop-rest.invariant (some_left) _ c.lowest-t.ensures in
    omega (arith, below)

pub loop-rest-smaller-then-member : goal.loop-rest-smaller-then-member
loop-rest-smaller-then-member c =
    let some_left : bits_of c.loop-rest.rest ≢ 0 = some _ c.is_empty.ensures c.loop-rest-test.true in
    collected_falls capacity _ _ _ (bits_of c.loop-rest.rest) (bits_of c.loop-rest.c) c.loop-rest.invariant (some_left) _ c.lowest-t.ensures _
    c.without_lowest-rest.ensures

pub loop-rest-preserved-then-member : goal.loop-rest-preserved-then-member
loop-rest-preserved-then-member c =
    let some_left : bits_of c.loop-rest.rest ≢ 0 = some _ c.is_empty.ensures c.loop-rest-test.true in
    gathered_hit _ _ c.args.s c.requires.3 c.requires.1 _ (bits_of c.loop-rest.rest) _ c.loop-rest.invariant (some_left) _ c.lowest-t.ensures _
    c.row-row.ensures _ c.without_lowest-rest.ensures _ (sym c.member.ensures ∙ c.if-member.true) c.insert-c.ensures

pub loop-rest-smaller : goal.loop-rest-smaller
loop-rest-smaller c =
    let some_left : bits_of c.loop-rest.rest ≢ 0 = some _ c.is_empty.ensures c.loop-rest-test.true in
    gathered_falls _ _ c.args.s c.requires.3 c.requires.1 _ (bits_of c.loop-rest.rest) _ c.loop-rest.invariant (some_left) _ c.lowest-t.ensures _
    c.row-row.ensures _ c.without_lowest-rest.ensures _ c.difference-rest.ensures

pub loop-rest-preserved : goal.loop-rest-preserved
loop-rest-preserved c =
    let some_left : bits_of c.loop-rest.rest ≢ 0 = some _ c.is_empty.ensures c.loop-rest-test.true in
    gathered_miss _ _ c.args.s c.requires.3 c.requires.1 _ (bits_of c.loop-rest.rest) _ c.loop-rest.invariant (some_left) _ c.lowest-t.ensures _
    c.row-row.ensures _ c.without_lowest-rest.ensures _ (sym c.member.ensures ∙ c.if-member.false) c.difference-rest.ensures

pub returns : goal.returns
returns c =
    gathered_end _ _ c.args.s _ (bits_of c.loop-rest.rest) _ c.pruned-rest.ensures c.loop-rest.invariant
    (none _ c.is_empty.ensures c.loop-rest-test.false)
