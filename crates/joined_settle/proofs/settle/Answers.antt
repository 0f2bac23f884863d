-- `settle`.
use mathlib.Core.Path.{sym, ◌∙◌}
use native.Mathlib.Omega.{arith}
use Rattle.joined_settle.proofs.Whole.{swept_then, unsettled_rows, unsettled_below, force_start, safe_start, joined_swept, settled_by_force, settled_safely}
use Rattle.joined_settle.proofs.settle.Goals as goal

pub accepting-requires : goal.accepting-requires
accepting-requires c =
    let i = unsettled_below _ c.requires.0 _ _ _ c.requires.2 in
    (c.requires.0, i.0, i.1, c.requires.1, unsettled_rows _ c.requires.0 _ _ _ c.requires.2, c.requires.3, c.requires.4)

pub keep_safe-requires : goal.keep_safe-requires
keep_safe-requires c =
    let start = safe_start _ c.requires.0 _ _ _ c.requires.2 _ c.join.ensures in
    (c.requires.0, omega (arith, c.requires.1, c.join.ensures.kept.long), start, c.requires.3, c.requires.4)

pub force-requires : goal.force-requires
force-requires c =
    (c.requires.0, c.requires.1, force_start _ c.requires.0 _ _ _ c.requires.2, c.requires.3, c.requires.4)

pub returns-then-accepting : goal.returns-then-accepting
returns-then-accepting c =
    let k = c.keep_safe in
    let w = swept_then _ c.requires.0 (joined_swept _ c.requires.0 _ _ _ c.requires.2 _ c.join.ensures) k.ensures.0 in
    settled_safely _ c.requires.0 _ _ _ c.requires.2 _ w (sym c.accepting.ensures ∙ c.if-accepting.true) k.ensures.1 k.ensures.2

pub returns-else-accepting : goal.returns-else-accepting
returns-else-accepting c =
    let f = c.force in
    settled_by_force _ c.requires.0 _ _ _ c.requires.2 _ f.ensures.0 (sym c.accepting.ensures ∙ c.if-accepting.false) f.ensures.1 f.ensures.2
