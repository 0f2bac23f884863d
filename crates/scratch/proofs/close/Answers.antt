-- `close` lays both closures.
use mathlib.Core.Path.{refl, sym, ◌∙◌}
use Rattle.sets.proofs.Rows.{words_held, count_same}
use Rattle.board.specs.Board.{game_on}
use Rattle.scratch.specs.Scratch.{scratch_sets}
use Rattle.scratch.proofs.Areas.{laid_both, kept_both}
use native.Mathlib.Omega.{arith}
use Rattle.scratch.proofs.close.Goals as goal

pub close_at-requires : goal.close_at-requires
close_at-requires g c =
    let known = rw (← c.requires.0) at c.requires.1 in
    let held = words_held c.args.s.now (scratch_sets c.args.z.inputs c.args.z.outputs) known.1 in
    (known.0.input.most, omega arith, omega arith, omega (arith, known.0.input.most, c.in_rows.ensures.1))

pub close_at-requires-2 : goal.close_at-requires-2
close_at-requires-2 g c =
    let known = rw (← c.requires.0) at c.requires.1 in
    let held = words_held c.args.s.now (scratch_sets c.args.z.inputs c.args.z.outputs) known.1 in
    let same = count_same c.close_at.new.s c.args.s.now c.close_at.auto.s in
    (known.0.output.most, omega (arith, known.0.input.most), omega arith, omega (arith, known.0.output.most, c.out_rows.ensures.1))

pub returns : goal.returns
returns g c =
    let known = rw (← c.requires.0) at c.requires.1 in
    let ins = c.close_at.ensures (game_on c.args.z c.args.b.now).input
    (record { states = refl; moves = sym c.in_rows.ensures.0 }) in
    let outs = c.close_at-2.ensures (game_on c.args.z c.args.b.now).output
    (record { states = refl; moves = sym c.out_rows.ensures.0 }) in
    let same = c.close_at-2.auto.s ∙ c.close_at.auto.s in
    rw (← c.requires.0) (
      laid_both (game_on c.args.z c.args.b.now) _ _ _ ins outs same known.1,
      kept_both (game_on c.args.z c.args.b.now) _ _ _ ins outs same known.1 (λ i. omega (arith, c.slice_known-3-1.given i))
          (λ i. omega (arith, c.slice_known-1.given i)),
    )
