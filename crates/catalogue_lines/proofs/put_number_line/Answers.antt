-- `put_number_line` meets its contract.
use Prim.Native.Nat.{◌≤◌}
use lib.ListN.{length}
use Rattle.text_put.proofs.Buffer.{puts_then, puts_as}
use Rattle.catalogue_lines.specs.Figures.{number_line}
use Rattle.catalogue_lines.proofs.Lines.{number_opening, number_pieces, number_unmet, number_line_short}
use Rattle.catalogue_lines.proofs.put_number_line.Goals as goal

pub returns-then-n-eq0 : goal.returns-then-n-eq0
returns-then-n-eq0 c =
    let short : length (number_line c.args.r c.args.n) ≤ 60 = number_line_short c.args.r c.args.n c.ranges.r.fits c.ranges.n.fits in
    (number_unmet _ _ _ _ c.if-n-eq0.true, short)

pub returns : goal.returns
unfolding number_opening
returns c =
    let short : length (number_line c.args.r c.args.n) ≤ 60 = number_line_short c.args.r c.args.n c.ranges.r.fits c.ranges.n.fits in
    (puts_as (number_pieces _ _ c.if-n-eq0.false) (puts_then c.put_text-a.ensures c.put_pair.ensures), short)
