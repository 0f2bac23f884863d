-- `accept` lends the rows of both graphs.
use mathlib.Core.Path.{refl, sym, ◌∙◌}
use native.Mathlib.Omega.{arith}
use lib.ListN.{length-map}
use Rattle.sets.proofs.Rows.{words_held}
use Rattle.acceptance.proofs.accept.Goals as goal

pub accept_lent-requires : goal.accept_lent-requires
accept_lent-requires c =
    let g = c.args.g in
    let fields = c.well_formed.0.1.1 in (
      refl,
      refl,
      words_held _ _ (omega (arith, fields.0.1.1.1.1.0.1.0.1)),
      words_held _ _ (omega (arith, fields.1.0.1.1.1.1.0.1.0.1)),
    )
