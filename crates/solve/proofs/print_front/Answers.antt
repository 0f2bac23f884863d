-- `print_front` meets its contract: what it passes on is the print.
use mathlib.Core.Path.{refl, sym}
use lib.Seq.{length-take-le}
use Rattle.solve.proofs.Printed.{printed_within, printed_front}
use Rattle.solve.proofs.print_front.Goals as goal

pub slice_bounds-print-end : goal.slice_bounds-print-end
slice_bounds-print-end c = sym (length-take-le _ _ (printed_within c.requires.1))

pub print-requires : goal.print-requires
print-requires c = record { output = refl; print = printed_front c.requires.1 }
