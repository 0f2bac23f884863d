-- `spread` goes from run to run.
use Prim.Native.Nat.{◌<◌}
use mathlib.Core.Logic.{◌≢◌}
use borrow.Author.Tests.{eqb-true}
use native.Mathlib.Omega.{arith}
use mathlib.Core.Path.{sym, ◌∙◌}
use Rattle.finite.proofs.Bounded.{least_le}
use Rattle.bits.specs.Member.{has}
use Rattle.sets.specs.Words.{capacity, bits_of}
use Rattle.sets.proofs.Rows.{some, none}
use Rattle.region_runs.proofs.Runs.{spread_alone, spreading_start, spreading_below, spreading_falls, spreading_next, spreading_end}
use Rattle.region_runs.proofs.spread.Goals as goal

pub returns-then-same : goal.returns-then-same
returns-then-same c =
    spread_alone _ _ _ _ _ _ c.below.ensures c.intersection-all.ensures (eqb-true _ _ (sym c.same.ensures ∙ c.if-same.true)) c.requires.2

pub loop-x-init : goal.loop-x-init
loop-x-init c =
    let p = c.requires in
    rw c.empty-y.ensures.1 (spreading_start _ _ _ _ p.0 p.1 p.2)

pub without_lowest-rest-requires : goal.without_lowest-rest-requires
without_lowest-rest-requires c =
    let some_left : bits_of c.loop-x.rest ≢ 0 = some _ c.is_empty.ensures c.loop-x-test.true in
    some_left

pub between-run-requires : goal.between-run-requires
between-run-requires c =
    let some_left : bits_of c.loop-x.rest ≢ 0 = some _ c.is_empty.ensures c.loop-x-test.true in
    let first_below : c.lowest-j.result < capacity = let p = c.requires in
    spreading_below _ _ _ _ p.0 p.1 p.2 _ _ c.loop-x.invariant (some_left) _ c.lowest-j.ensures in
    let left = c.without_lowest-rest.result in
    (omega (arith, first_below), omega (arith, least_le capacity (has (bits_of left)), c.lowest.ensures))

pub member-requires : goal.member-requires
member-requires c =
    let some_left : bits_of c.loop-x.rest ≢ 0 = some _ c.is_empty.ensures c.loop-x-test.true in
    let first_below : c.lowest-j.result < capacity = let p = c.requires in
    spreading_below _ _ _ _ p.0 p.1 p.2 _ _ c.loop-x.invariant (some_left) _ c.lowest-j.ensures in
    first_below

pub loop-x-smaller : goal.loop-x-smaller
loop-x-smaller c =
    let some_left : bits_of c.loop-x.rest ≢ 0 = some _ c.is_empty.ensures c.loop-x-test.true in
    let p = c.requires in
    spreading_falls _ _ _ _ p.0 p.1 p.2 _ _ c.loop-x.invariant (some_left) _ c.lowest-j.ensures _ c.without_lowest-rest.ensures _
    c.lowest.ensures

pub loop-x-preserved : goal.loop-x-preserved
loop-x-preserved c =
    let some_left : bits_of c.loop-x.rest ≢ 0 = some _ c.is_empty.ensures c.loop-x-test.true in
    let p = c.requires in
    spreading_next _ _ _ _ p.0 p.1 p.2 _ _ c.loop-x.invariant (some_left) _ c.lowest-j.ensures _ c.without_lowest-rest.ensures _
    c.lowest.ensures _ c.between-run.ensures c.member.ensures c.union_if-y.ensures

pub returns : goal.returns
returns c =
    let p = c.requires in
    spreading_end _ _ _ _ p.0 p.1 p.2 _ _ c.below.ensures c.intersection-all.ensures _ _ c.loop-x.invariant
    (none _ c.is_empty.ensures c.loop-x-test.false)
