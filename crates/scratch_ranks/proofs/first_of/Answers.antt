-- `first_of` looks at the leaders that i reaches.
use mathlib.Core.Path.{sym, ◌∙◌}
use Rattle.sets.proofs.Rows.{some, none}
use Rattle.scratch_ranks.proofs.First.{unmet_first, searching_start, searching_end, searching_below, searching_found, searching_next, searching_falls}
use native.Mathlib.Omega.{arith}
use Rattle.scratch_ranks.proofs.first_of.Goals as goal

pub member-requires : goal.member-requires
member-requires c = let p = c.requires in omega (arith, p.0, p.2)

pub returns-then-not-member : goal.returns-then-not-member
returns-then-not-member c =
    let p = c.requires in
    unmet_first _ _ p.1 _ _ _ p.2 p.3 (sym c.member.ensures ∙ c.if-not-member.true)

pub in_reach-row-requires : goal.in_reach-row-requires
in_reach-row-requires c = let p = c.requires in omega (arith, p.1.long, p.2)

pub loop-rest-init : goal.loop-rest-init
loop-rest-init c = searching_start _ _ _

pub in_reach-there-requires : goal.in_reach-there-requires
in_reach-there-requires c =
    let p = c.requires in
    omega (
      arith,
      p.1.long,
      searching_below _ _ p.1 _ _ _ p.2 p.3 _ _ c.in_reach-row.ensures c.intersection-rest.ensures _ c.loop-rest.invariant p.0
          (some _ c.is_empty.ensures c.loop-rest-test.true) _ c.lowest-j.ensures,
    )

pub member-requires-in-loop-rest : goal.member-requires-in-loop-rest
member-requires-in-loop-rest c =
    let p = c.requires in
    omega (arith, p.0, p.2)

pub returns-then-member : goal.returns-then-member
returns-then-member c =
    let p = c.requires in
    searching_found _ _ p.1 _ _ _ p.2 p.3 _ _ c.in_reach-row.ensures c.intersection-rest.ensures _ c.loop-rest.invariant p.0
    (some _ c.is_empty.ensures c.loop-rest-test.true) _ c.lowest-j.ensures _ c.in_reach-there.ensures
    (sym c.member-in-loop-rest.ensures ∙ c.if-member.true)

pub loop-rest-smaller : goal.loop-rest-smaller
loop-rest-smaller c =
    let p = c.requires in
    searching_falls _ _ p.1 _ _ _ p.2 p.3 _ _ c.in_reach-row.ensures c.intersection-rest.ensures _ c.loop-rest.invariant p.0
    (some _ c.is_empty.ensures c.loop-rest-test.true) _ c.lowest-j.ensures _ c.in_reach-there.ensures _ c.difference-rest.ensures

pub loop-rest-preserved : goal.loop-rest-preserved
loop-rest-preserved c =
    let p = c.requires in
    searching_next _ _ p.1 _ _ _ p.2 p.3 _ _ c.in_reach-row.ensures c.intersection-rest.ensures _ c.loop-rest.invariant p.0
    (some _ c.is_empty.ensures c.loop-rest-test.true) _ c.lowest-j.ensures _ c.in_reach-there.ensures _ c.difference-rest.ensures
    (sym c.member-in-loop-rest.ensures ∙ c.if-member.false)

pub returns : goal.returns
returns c =
    let p = c.requires in
    searching_end _ _ p.1 _ _ _ p.2 p.3 _ _ c.in_reach-row.ensures c.intersection-rest.ensures _ c.loop-rest.invariant
    (none _ c.is_empty.ensures c.loop-rest-test.false)
