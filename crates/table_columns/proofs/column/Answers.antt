-- `column` is a front where the set is all below the count, else written member by member.
use Prim.Native.Nat.{◌≤◌}
use mathlib.Core.Path.{◌≡◌, sym, ◌∙◌}
use borrow.Author.Tests.{eqb-true}
use Rattle.finite.proofs.Bounded.{least_le}
use Rattle.table_counters.specs.Counters.{counter_capacity}
use Rattle.table_columns.proofs.Fronts.{front_fits, front_column}
use Rattle.table_columns.proofs.column.Goals as goal

pub below-requires-2 : goal.below-requires-2
below-requires-2 c =
    let few : c.lowest-count.result ≤ counter_capacity = rw c.lowest-count.ensures (least_le counter_capacity _) in
    few

pub front-requires : goal.front-requires
front-requires c =
    let whole : c.args.which.0 ≡ c.below-2.result.0 = eqb-true _ _ (sym c.same.ensures ∙ c.if-same.true) in
    let few : c.lowest-count.result ≤ counter_capacity = rw c.lowest-count.ensures (least_le counter_capacity _) in
    front_fits _ _ _ (whole) c.below-2.ensures _ _ _ _ _ c.requires (few)

pub returns-then-same : goal.returns-then-same
returns-then-same c =
    let whole : c.args.which.0 ≡ c.below-2.result.0 = eqb-true _ _ (sym c.same.ensures ∙ c.if-same.true) in
    front_column _ _ _ (whole) c.below-2.ensures _ _ _ _ _ _ c.front.ensures
