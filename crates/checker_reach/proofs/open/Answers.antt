-- `open` meets its contract.
use Rattle.checker_reach.proofs.Opening.{opening_start, opening_skip, opening_fits, opening_bad, opening_next, opening_end}
use mathlib.Core.Path.{◌∙◌}
use Rattle.checker_reach.proofs.open.Goals as goal

pub loop-i-init : goal.loop-i-init
loop-i-init c = opening_start _ _ _ _ _ _ _ _ c.requires

pub loop-i-preserved-then-not-begins_with : goal.loop-i-preserved-then-not-begins_with
loop-i-preserved-then-not-begins_with c =
    opening_skip _ _ _ _ _ _ _ _ c.requires _ _ _ _ _ c.loop-i.invariant
    c.loop-i-test.true c.begins_with.ensures c.if-not-begins_with.true

pub returns-then-s-eq65535 : goal.returns-then-s-eq65535
returns-then-s-eq65535 c =
    opening_bad _ _ _ _ _ _ _ _ c.requires _ _ _ _ _
    c.loop-i.invariant c.loop-i-test.true
    c.begins_with.ensures c.if-not-begins_with.false _
    (c.from-s.ensures ∙ c.start.ensures) c.if-s-eq65535.true

pub visit-found-requires : goal.visit-found-requires
visit-found-requires c =
    opening_fits _ _ _ _ _ _ _ _ c.requires _ _ _ _ _
    c.loop-i.invariant

pub loop-i-preserved : goal.loop-i-preserved
loop-i-preserved c =
    opening_next _ _ _ _ _ _ _ _
    c.requires _ _ _ _ _
    c.loop-i.invariant
    c.loop-i-test.true
    c.begins_with.ensures
    c.if-not-begins_with.false _
    (c.from-s.ensures ∙ c.start.ensures)
    c.if-s-eq65535.false _ _ _ _ c.visit-found.ensures

pub returns : goal.returns
returns c = opening_end _ _ _ _ _ _ _ _ c.requires _ _ _ _ _ c.loop-i.invariant c.loop-i-test.false
