-- `put_figures` meets its contract.
use native.Mathlib.Omega.{arith}
use Rattle.text_put.proofs.Buffer.{puts_then}
use Rattle.catalogue_lines.specs.Figures.{figures_print}
use Rattle.catalogue_lines.proofs.Lines.{figures_short}
use Rattle.catalogue_lines.proofs.put_figures.Goals as goal

pub returns : goal.returns
unfolding figures_print
returns c =
    let one = c.put_count-a.ensures in
    let two = c.put_count-b.ensures in
    let three = c.put_count-c.ensures in
    let numbers = c.put_numbers-d.ensures in
    let won = c.put_won.ensures in
    record {
      puts = puts_then one (puts_then two (puts_then three (puts_then numbers.0 won)));
      fits = figures_short _ (omega (arith, c.well_formed)) (omega (arith, c.well_formed)) (omega (arith, c.well_formed)) numbers.1 (omega (arith, c.well_formed)) (omega (arith, c.well_formed));
    }
