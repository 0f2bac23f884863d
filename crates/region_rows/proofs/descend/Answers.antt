-- `descend` stays where the next input leads back, and goes to it where it does not.
use mathlib.Core.Path.{sym, ◌∙◌}
use Rattle.region_rows.proofs.Down.{descend_at, descend_below, descending_falls, descending_stays, descending_shrinks, descending_goes}
use native.Mathlib.Omega.{arith}
use Rattle.region_rows.proofs.descend.Goals as goal

pub in_reach-row-requires : goal.in_reach-row-requires
in_reach-row-requires g c =
    let known = rw (← c.requires.0) at c.requires.1 in
    let p = known in
    omega (arith, p.1.long, descend_below _ _ p.0 p.1 _ p.2 _ p.3 p.4 _ c.lowest-t.ensures)

pub member-requires : goal.member-requires
member-requires g c =
    let known = rw (← c.requires.0) at c.requires.1 in
    let p = known in
    omega (arith, p.0, descend_at _ _ p.0 p.1 _ p.2 _ p.3)

pub returns-then-member : goal.returns-then-member
returns-then-member g c =
    let known = rw (← c.requires.0) at c.requires.1 in
    rw (← c.requires.0) (
    let p = known in
    let back = sym c.member.ensures ∙ c.if-member.true in (
      descending_stays _ _ p.0 p.1 _ p.2 _ p.3 p.4 _ c.lowest-t.ensures _ c.in_reach-row.ensures _ c.without_lowest-less.ensures back,
      descending_falls _ _ p.0 p.1 _ p.2 _ p.3 p.4 _ c.lowest-t.ensures _ c.in_reach-row.ensures _ c.without_lowest-less.ensures,
    ))

pub returns : goal.returns
returns g c =
    let known = rw (← c.requires.0) at c.requires.1 in
    rw (← c.requires.0) (
    let p = known in (
      descending_goes _ _ p.0 p.1 _ p.2 _ p.3 p.4 _ c.lowest-t.ensures _ c.in_reach-row.ensures _ c.without_lowest-less.ensures _
          c.intersection.ensures,
      descending_shrinks _ _ p.0 p.1 _ p.2 _ p.3 p.4 _ c.lowest-t.ensures _ c.in_reach-row.ensures _ c.without_lowest-less.ensures _
          c.intersection.ensures,
    ))
