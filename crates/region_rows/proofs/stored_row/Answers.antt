-- `stored_row` works out homes, or replies.
use mathlib.Core.Path.{refl, sym, ◌∙◌}
use Rattle.region_dues.proofs.Meaning.{fits_few}
use Rattle.region_rows.proofs.Order.{entered_below, among_below, row_homes, row_replies}
use Rattle.region_rows.proofs.stored_row.Goals as goal

pub accepted-among-requires : goal.accepted-among-requires
accepted-among-requires g c =
    let known = rw (← c.requires.0) at c.requires.1 in
    let p = known in
    (refl, (fits_few _ p.0.fits, p.1.whole))

pub home_row-requires : goal.home_row-requires
home_row-requires g c =
    let known = rw (← c.requires.0) at c.requires.1 in
    let p = known in
    let R = p.0 in (
      R.fits.input.most,
      R.fits.output.most,
      R.laid.long,
      entered_below R _ _ _ _ _ p.1 p.2 c.entered.ensures c.accepted-among.ensures,
      among_below R _ _ _ _ _ p.1 p.2 c.entered.ensures c.accepted-among.ensures,
    )

pub returns-then-member : goal.returns-then-member
returns-then-member g c =
    let known = rw (← c.requires.0) at c.requires.1 in
    rw (← c.requires.0) (
    let p = known in
    row_homes p.0 _ _ _ _ _ p.1 p.2 c.entered.ensures c.accepted-among.ensures _ (sym c.member.ensures ∙ c.if-member.true)
    c.home_row.ensures)

pub returns : goal.returns
returns g c =
    let known = rw (← c.requires.0) at c.requires.1 in
    rw (← c.requires.0) (
    row_replies known.0 _ (sym c.member.ensures ∙ c.if-member.false) c.reply_row.ensures)
