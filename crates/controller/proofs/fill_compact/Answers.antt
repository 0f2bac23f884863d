-- `fill_compact`: the ranks, the starts, then the rows.
use mathlib.Core.Path.{◌∙◌, ap}
use native.Mathlib.Omega.{arith}
use Rattle.sets.specs.Words.{bits_of}
use Rattle.game.specs.declared.InSet.{InSet}
use Rattle.game.specs.declared.OutSet.{OutSet}
use Rattle.controller_rows.proofs.Writes.{starts_at, long_starts}
use Rattle.controller_table.specs.Filled.{Given}
use Rattle.controller_table.proofs.Setting.{table_of, scratch_long}
use Rattle.controller.proofs.Components.{component_long, component_products, ranks_room, component_filled}
use Rattle.controller.proofs.fill_compact.Goals as goal

pub write_ranks-leaders-requires : goal.write_ranks-leaders-requires
write_ranks-leaders-requires c =
    let p = c.requires in
    (p.1.fits.input.most, p.1.laid, omega (arith, p.2, ranks_room c.args.g))

pub starts-requires : goal.starts-requires
starts-requires c =
    let given : Given c.args.g c.compact_size-z.result c.args.s.now (bits_of c.args.c.0) = record { sized = c.compact_size-z.ensures.0; ready = c.requires.1 } in
    let e = c.compact_size-z.ensures in (
      table_of _ _ e.0 _ (omega (arith, c.requires.2, component_long _ _ e.0 e.1, c.write_ranks-leaders.ensures.0.long)),
      scratch_long (given),
    )

pub rows-requires : goal.rows-requires
rows-requires c =
    let given : Given c.args.g c.compact_size-z.result c.args.s.now (bits_of c.args.c.0) = record { sized = c.compact_size-z.ensures.0; ready = c.requires.1 } in
    let e = c.compact_size-z.ensures in
    let p = c.requires in (
      given,
      omega (arith, p.2, component_long _ _ e.0 e.1, c.write_ranks-leaders.ensures.0.long, long_starts c.starts.ensures),
      p.3,
      p.4,
      p.5,
    )

pub overflow_mul-result : goal.overflow_mul-result
overflow_mul-result c =
    let e = c.compact_size-z.ensures in
    omega (arith, (component_products _ _ e.0 e.1).0)

pub overflow_mul-result-2 : goal.overflow_mul-result-2
overflow_mul-result-2 c =
    let e = c.compact_size-z.ensures in
    omega (arith, (component_products _ _ e.0 e.1).1)

pub overflow_add-result : goal.overflow_add-result
overflow_add-result c =
    let e = c.compact_size-z.ensures in
    omega (arith, (component_products _ _ e.0 e.1).1, e.0.front)

pub shape_of-room : goal.shape_of-room
shape_of-room c =
    c.rows.ensures.long ∙ long_starts c.starts.ensures ∙ c.write_ranks-leaders.ensures.0.long

pub returns : goal.returns
returns c =
    let given : Given c.args.g c.compact_size-z.result c.args.s.now (bits_of c.args.c.0) = record { sized = c.compact_size-z.ensures.0; ready = c.requires.1 } in
    let e = c.compact_size-z.ensures in (
      component_filled _ _ e.0 e.1 (given) c.requires.2 c.write_ranks-leaders.ensures.0
          (starts_at (ap (λ (x : InSet). bits_of x.0) c.in_initial.ensures)
          (ap (λ (x : OutSet). bits_of x.0) c.out_initial.ensures) c.starts.ensures)
          c.rows.ensures,
      component_long _ _ e.0 e.1,
    )
