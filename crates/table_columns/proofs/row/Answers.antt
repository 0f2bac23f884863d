-- `row` is a run where the set is all below the width, else its places one by one.
use borrow.Author.Tests.{eqb-true}
use mathlib.Core.Path.{◌≡◌, sym, ◌∙◌}
use Rattle.sets.specs.Words.{bits_of}
use Rattle.table_columns.proofs.Rows.{run_fits, run_row}
use Rattle.table_columns.proofs.row.Goals as goal

pub run-requires : goal.run-requires
run-requires c =
    let whole : bits_of c.args.over ≡ bits_of c.below.result = eqb-true _ _ (sym c.same.ensures ∙ c.if-same.true) in
    run_fits _ _ _ (whole) c.below.ensures _ _ c.requires

pub returns-then-same : goal.returns-then-same
returns-then-same c =
    let whole : bits_of c.args.over ≡ bits_of c.below.result = eqb-true _ _ (sym c.same.ensures ∙ c.if-same.true) in
    run_row _ _ _ (whole) c.below.ensures _ _ _ _ c.run.ensures
