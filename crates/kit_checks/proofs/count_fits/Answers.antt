-- `count_fits` tests both bounds.
use mathlib.Core.Path.{refl}
use borrow.Author.Tests.{lt-leb, le-leb}
use Rattle.finite.proofs.Loops.{and_stop, and_next}
use Rattle.kit_checks.proofs.count_fits.Goals as goal

pub returns-then-n-lt1 : goal.returns-then-n-lt1
returns-then-n-lt1 c = and_stop _ (lt-leb 1 _ c.if-n-lt1.true)

pub returns : goal.returns
returns c = and_next (le-leb 1 _ c.if-n-lt1.false) refl
