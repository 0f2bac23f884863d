-- `put_numbers` meets its contract.
use native.Mathlib.Omega.{arith}
use Prim.Native.Nat.{◌+◌, ◌-◌}
use lib.ListN.{length, get_or, length-append}
use mathlib.Core.Path.{refl, ap}
use Rattle.text_put.proofs.Buffer.{remains_as, remains_all, remains_step, remains_none, puts_length}
use Rattle.catalogue_lines.specs.Figures.{number_line, number_lines}
use Rattle.catalogue_lines.proofs.Lines.{numbers_none, numbers_take, numbers_last}
use Rattle.catalogue_lines.proofs.put_numbers.Goals as goal

pub loop-r-init : goal.loop-r-init
loop-r-init c = (remains_as (remains_all _ _ _) (numbers_none _ _), omega arith, omega arith)

pub loop-r-preserved : goal.loop-r-preserved
loop-r-preserved c =
    let l = c.loop-r in
    let numbers = c.args.numbers.now in
    let line = c.put_number_line-to.ensures in
    let take = numbers_take 256 l.r numbers _ c.loop-r-test.true refl in
    (remains_step _ _ l.invariant.0 take line.0, omega arith, omega (arith, ap length take, length-append (number_line l.r (get_or numbers l.r 0)) (number_lines (256 - (l.r + 1)) (l.r + 1) numbers)))

pub shape_of-buffer : goal.shape_of-buffer
shape_of-buffer c = puts_length (remains_none (remains_as c.loop-r.invariant.0 (numbers_last _ _ _ c.loop-r-test.false)))

pub returns : goal.returns
returns c =
    let last = numbers_last 256 c.loop-r.r c.args.numbers.now c.loop-r-test.false in
    (remains_none (remains_as c.loop-r.invariant.0 last), omega (arith, ap length last, c.loop-r.invariant))
