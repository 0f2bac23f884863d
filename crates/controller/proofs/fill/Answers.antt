-- `fill`: the starts, then the rows.
use mathlib.Core.Path.{ap}
use native.Mathlib.Omega.{arith}
use Rattle.sets.specs.Words.{bits_of}
use Rattle.game.specs.declared.InSet.{InSet}
use Rattle.game.specs.declared.OutSet.{OutSet}
use Rattle.controller_rows.proofs.Writes.{starts_at, long_starts}
use Rattle.controller_table.specs.Filled.{Given}
use Rattle.controller_table.proofs.Setting.{table_of, scratch_long}
use Rattle.controller.proofs.Sheets.{input_long, input_filled}
use Rattle.controller.proofs.fill.Goals as goal

pub starts-requires : goal.starts-requires
starts-requires c =
    let given : Given c.args.g c.size_of-z.result c.args.s.now (bits_of c.args.c.0) = record { sized = c.size_of-z.ensures.0; ready = c.requires.1 } in
    let e = c.size_of-z.ensures in
    (table_of _ _ e.0 _ (omega (arith, c.requires.2, input_long _ _ e.0 e.1)), scratch_long (given))

pub rows-requires : goal.rows-requires
rows-requires c =
    let given : Given c.args.g c.size_of-z.result c.args.s.now (bits_of c.args.c.0) = record { sized = c.size_of-z.ensures.0; ready = c.requires.1 } in
    let e = c.size_of-z.ensures in
    let p = c.requires in
    (given, omega (arith, p.2, input_long _ _ e.0 e.1, long_starts c.starts.ensures), p.3, p.4, p.5)

pub returns : goal.returns
returns c =
    let given : Given c.args.g c.size_of-z.result c.args.s.now (bits_of c.args.c.0) = record { sized = c.size_of-z.ensures.0; ready = c.requires.1 } in
    let e = c.size_of-z.ensures in
    input_filled _ _ e.0 e.1 (given) c.requires.2
    (starts_at (ap (λ (x : InSet). bits_of x.0) c.in_initial.ensures)
    (ap (λ (x : OutSet). bits_of x.0) c.out_initial.ensures) c.starts.ensures)
    c.rows.ensures
