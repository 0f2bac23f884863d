-- `push_rows`: one move into what o refuses.
use native.Mathlib.Omega.{arith}
use Rattle.environment_table.proofs.Laid.{laid_fits}
use Rattle.environment_plain.proofs.Pushing.{pushes_entering, pushes_written}
use Rattle.environment_plain.proofs.push_rows.Goals as goal

pub enter-requires : goal.enter-requires
enter-requires c =
    let p = c.requires in (
      laid_fits _ _ _ _ p.0 c.layout_of-z.ensures,
      pushes_entering _ _ _ _ p.0 c.layout_of-z.ensures _ _ _ p.1 p.2,
      omega (arith, p.1.output, c.layout_of-z.ensures.width),
    )

pub returns : goal.returns
returns c =
    let p = c.requires in
    pushes_written _ _ _ _ p.0 c.layout_of-z.ensures _ _ _ p.1 p.2 c.enter.ensures
