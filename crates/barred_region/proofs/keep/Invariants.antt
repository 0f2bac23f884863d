-- `keep`.
use mathlib.Core.Path.{◌≡◌}
use lib.ListN.{length}
use Rattle.sets.specs.Words.{sets_in}
use Rattle.barred_rows.specs.Areas.{kept_pairs}
use Rattle.barred_region.proofs.Among.{counted}
use Rattle.barred_region.proofs.Keeping.{Keeping}
use Rattle.barred_region.proofs.keep.Given as goal

abbrev pub invariant-loop-g : goal.invariant-loop-g
invariant-loop-g l =
    (length l.s ≡ length l.initial.s) × Keeping l.g (sets_in l.bars) (sets_in l.initial.s) (sets_in l.s)

abbrev pub decreases-loop-g : goal.decreases-loop-g
decreases-loop-g l = counted l.g (kept_pairs (sets_in l.s))
