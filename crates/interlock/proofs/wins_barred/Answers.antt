-- `wins_barred`.
use mathlib.Core.Path.{◌∙◌}
use native.Mathlib.Omega.{arith}
use Rattle.sets.specs.Words.{sets_in}
use Rattle.sets.proofs.Rows.{words_held, count_same}
use Rattle.game.proofs.Laws.{accepted_fits}
use Rattle.interlock.proofs.Bars.{opens_region}
use Rattle.interlock.proofs.Answers.{kept_rest, scratch_sets_lem}
use Rattle.interlock.proofs.wins_barred.Goals as goal

pub keep-requires : goal.keep-requires
keep-requires c =
    (accepted_fits _ c.requires.0, scratch_sets_lem c.args.scratch.now c.requires.2, words_held c.args.bars.now _ c.requires.1)

pub all_open-r-requires : goal.all_open-r-requires
all_open-r-requires c =
    let F = accepted_fits _ c.requires.0 in
    let long = scratch_sets_lem c.args.scratch.now c.requires.2 in
    (F.input.most, omega (arith, F.input.most, long, count_same c.keep.new.s c.args.scratch.now c.keep.auto.s))

pub returns : goal.returns
returns c =
    let F = accepted_fits _ c.requires.0 in (
      c.all_open-r.ensures ∙ opens_region _ F c.args.bars.now (sets_in c.keep.new.s) c.keep.ensures.row,
      kept_rest _ _ _ _ (omega (arith, F.input.most)) c.keep.ensures.apart c.keep.auto.s (λ i. omega (arith, c.slice_known-1.given i))
          (λ i. omega (arith, c.slice_known-2-1.given i)) c.clear.ensures,
    )
