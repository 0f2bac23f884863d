-- `columns_of`: the inputs themselves where each leads, and all columns where the set has all leaders.
use mathlib.Core.Path.{sym, ◌∙◌}
use native.Mathlib.Omega.{arith}
use Rattle.finite.proofs.Bounded.{count_le}
use Rattle.sets.proofs.Values.{subset_at}
use Rattle.controller_rows.specs.Writes.{leading}
use Rattle.controller_rows.proofs.Columns.{among_all, among_led}
use Rattle.controller_rows.proofs.leaders.columns_of.Goals as goal

pub returns-then-z : goal.returns-then-z
returns-then-z c =
    among_all _ c.requires.1 _ c.if-z.true _ _ c.below.ensures c.intersection.ensures

pub below-requires-then-is_subset : goal.below-requires-then-is_subset
below-requires-then-is_subset c =
    omega (arith, c.requires.0, c.requires.1, count_le c.args.z.inputs (leading c.args.z))

pub returns-then-is_subset : goal.returns-then-is_subset
returns-then-is_subset c =
    among_led _ c.requires.1 _ (λ j l h. subset_at _ _ _ (sym c.is_subset.ensures ∙ c.if-is_subset.true) j (omega (arith, c.requires.0)) h) _ c.below-then-is_subset.ensures
