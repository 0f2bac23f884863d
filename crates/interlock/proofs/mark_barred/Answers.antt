-- `mark_barred`.
use native.Mathlib.Omega.{arith}
use Rattle.sets.proofs.Rows.{words_held, count_same}
use Rattle.game.proofs.Laws.{accepted_fits}
use Rattle.interlock.proofs.Bars.{barred_filled}
use Rattle.interlock.proofs.Answers.{kept_rest, scratch_sets_lem}
use Rattle.interlock.proofs.mark_barred.Goals as goal

pub keep-requires : goal.keep-requires
keep-requires c =
    (accepted_fits _ c.requires.0, scratch_sets_lem c.args.scratch.now c.requires.2, words_held c.args.bars.now _ c.requires.1)

pub write_map-requires : goal.write_map-requires
write_map-requires c =
    let F = accepted_fits _ c.requires.0 in
    let long = scratch_sets_lem c.args.scratch.now c.requires.2 in (
      omega (arith, F.input.most, long, count_same c.keep.new.s c.args.scratch.now c.keep.auto.s),
      words_held
          c.args.map.now _ c.requires.3,
    )

pub returns : goal.returns
returns c =
    let F = accepted_fits _ c.requires.0 in (
      kept_rest _ _ _ _ (omega (arith, F.input.most)) c.keep.ensures.apart c.keep.auto.s (λ i. omega (arith, c.slice_known-1.given i))
          (λ i. omega (arith, c.slice_known-3-1.given i)) c.clear.ensures,
      barred_filled _ _ _ _ _ c.requires.4 c.keep.ensures.row c.write_map.ensures,
    )
