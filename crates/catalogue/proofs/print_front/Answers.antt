-- `print_front` meets its contract: what it passes on is the print.
use mathlib.Core.Path.{refl, sym}
use lib.Seq.{length-take-le}
use Rattle.catalogue.proofs.Names.{kept_within, kept_front}
use Rattle.catalogue.proofs.print_front.Goals as goal

pub slice_bounds-print-end : goal.slice_bounds-print-end
slice_bounds-print-end c = sym (length-take-le _ _ (kept_within c.requires.1))

pub print-requires : goal.print-requires
print-requires c = kept_front refl c.requires.1
