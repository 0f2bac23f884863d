-- `won_next` reads the row of i, and looks for outputs that reach its homes where these are not the ones that are kept.
use mathlib.Core.Path.{sym, ◌∙◌}
use borrow.Author.Tests.{eqb-true}
use Rattle.scratch.proofs.Read.{won_all_in, won_all_same, won_all_out}
use Rattle.scratch.proofs.won_next.Goals as goal

pub returns-then-same : goal.returns-then-same
returns-then-same c =
    let kept = c.requires.4 in
    let inside = sym c.member.ensures ∙ c.if-member.true in
    let alike = eqb-true _ _ (sym c.same.ensures ∙ c.if-same.true) in
    (record { reaching = kept.reaching }, won_all_same _ _ _ _ _ _ _ c.region_row-homes.ensures inside _ alike kept.reaching)

pub returns-then-member : goal.returns-then-member
returns-then-member c =
    let inside = sym c.member.ensures ∙ c.if-member.true in
    let found = c.reaching-found.ensures in
    (record { reaching = found }, won_all_in _ _ _ _ _ _ _ c.region_row-homes.ensures inside found)

pub returns : goal.returns
returns c =
    let outside = sym c.member.ensures ∙ c.if-member.false in (
      record { reaching = c.requires.4.reaching },
      won_all_out _ _ _ _ _ _ _ c.region_row-homes.ensures _ outside c.below.ensures c.intersection.ensures,
    )
