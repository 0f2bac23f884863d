-- `pass_over_low` drops the lowest state until one has a move.
use Prim.Native.Nat.{◌<◌}
use mathlib.Core.Path.{sym, ◌∙◌}
use native.Mathlib.Omega.{arith}
use borrow.Author.Tests.{ltb-true}
use Rattle.finite.specs.Bounded.{least}
use Rattle.bits.specs.Member.{has}
use Rattle.sets.specs.Words.{capacity, low_states, bits_of}
use Rattle.graph_ways.proofs.Passing.{passed_none, passed_next, passed_falls}
use Rattle.graph_ways.proofs.pass_over_low.Goals as goal

pub loop-near-init : goal.loop-near-init
loop-near-init c = passed_none _ _ _

pub lowest_low-s-requires : goal.lowest_low-s-requires
lowest_low-s-requires c =
    let first : least capacity (has (bits_of c.loop-near.rest)) < low_states = ltb-true _ low_states (sym c.begins_low.ensures ∙ c.loop-near-test.true) in
    first

pub row_meets_low-requires : goal.row_meets_low-requires
row_meets_low-requires c =
    let first : least capacity (has (bits_of c.loop-near.rest)) < low_states = ltb-true _ low_states (sym c.begins_low.ensures ∙ c.loop-near-test.true) in
    (omega (arith, c.lowest_low-s.ensures, first), c.requires)

pub returns-then-row_meets_low : goal.returns-then-row_meets_low
returns-then-row_meets_low c = c.loop-near.invariant

pub without_lowest_low-rest-requires : goal.without_lowest_low-rest-requires
without_lowest_low-rest-requires c =
    let first : least capacity (has (bits_of c.loop-near.rest)) < low_states = ltb-true _ low_states (sym c.begins_low.ensures ∙ c.loop-near-test.true) in
    first

pub loop-near-smaller : goal.loop-near-smaller
loop-near-smaller c =
    let first : least capacity (has (bits_of c.loop-near.rest)) < low_states = ltb-true _ low_states (sym c.begins_low.ensures ∙ c.loop-near-test.true) in
    passed_falls _ _ _ c.lowest_low-s.ensures (first) c.without_lowest_low-rest.ensures

pub loop-near-preserved : goal.loop-near-preserved
loop-near-preserved c =
    let first : least capacity (has (bits_of c.loop-near.rest)) < low_states = ltb-true _ low_states (sym c.begins_low.ensures ∙ c.loop-near-test.true) in
    passed_next _ _ _ c.lowest_low-s.ensures (first) c.without_lowest_low-rest.ensures _ _ _ c.loop-near.invariant
    (sym c.row_meets_low.ensures ∙ c.if-row_meets_low.false)

pub returns : goal.returns
returns c = c.loop-near.invariant
