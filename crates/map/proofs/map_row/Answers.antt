-- `map_row` reads the outputs that are won.
use Rattle.map.proofs.Rows.{map_row_read}
use Rattle.map.proofs.map_row.Goals as goal

pub won_next-requires : goal.won_next-requires
won_next-requires g c =
    let known = rw (← c.requires.0) at c.requires.1 in
    let p = known in
    let R = p.0 in
    (R.fits.input.most, R.fits.output.most, p.1, R.laid.long, p.2)

pub returns : goal.returns
returns g c =
    let known = rw (← c.requires.0) at c.requires.1 in
    rw (← c.requires.0) (
    let p = known in
    (c.won_next.ensures.0, map_row_read p.0 _ p.1 c.won_next.ensures.1))
