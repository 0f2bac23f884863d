-- `won_map`: what it refuses; else it works out the region, writes the map and clears scratch.
use mathlib.Core.Path.{refl, sym, ◌∙◌, ap}
use native.Mathlib.Omega.{arith}
use Rattle.std.proofs.lemmas.Result.{err_from_is_err_and}
use Rattle.finite.proofs.Truth.{not_true, not_false}
use Rattle.sets.proofs.Rows.{words_held}
use Rattle.game.specs.declared.Game.{Game}
use Rattle.game.proofs.Laws.{accepted_fits}
use Rattle.scratch.proofs.Cleared.{cleared_kept}
use Rattle.region.proofs.Board.{fits_on, scratch_on, prepared_on}
use Rattle.map.proofs.Made.{filled_on, map_faulty, map_short, map_done, fits_scratch, fits_room}
use Rattle.map.proofs.won_map.Goals as goal

pub lay-z-requires : goal.lay-z-requires
lay-z-requires c = refl

pub accept_lent-requires : goal.accept_lent-requires
accept_lent-requires c =
    let same = c.lay-z.ensures in (
      c.in_rows.ensures.0 ∙ ap (λ (y : Game). y.input.moves) same,
      c.out_rows.ensures.0 ∙ ap (λ (y : Game). y.output.moves) same,
      c.in_rows.ensures.1,
      c.out_rows.ensures.1,
    )

pub fits-requires : goal.fits-requires
fits-requires c = sym c.accept_lent.ensures.answer ∙ c.in_ok-accept_lent.was

pub returns-then-not-fits : goal.returns-then-not-fits
returns-then-not-fits c =
    map_short _ _ _ (sym c.accept_lent.ensures.answer ∙ c.in_ok-accept_lent.was) (sym c.fits.ensures ∙ not_true _ c.if-not-fits.true-raw)

pub prepare-x-requires : goal.prepare-x-requires
prepare-x-requires c = (
  refl,
  let same = c.lay-z.ensures in (
    fits_on same (accepted_fits _ (sym c.accept_lent.ensures.answer ∙ c.in_ok-accept_lent.was)),
    scratch_on same (fits_scratch _ _ _ (sym c.fits.ensures ∙ not_false _ c.if-not-fits.false-raw)),
  ),
)

pub fill_map-requires : goal.fill_map-requires
fill_map-requires c = (
  refl,
  let fits = sym c.fits.ensures ∙ not_false _ c.if-not-fits.false-raw in
      let same = c.lay-z.ensures in
      (c.prepare-x.ensures.ready, words_held _ _ (omega (arith, fits_room _ _ _ fits, ap (λ (y : Game). y.input.states) same))),
)

pub length-requires : goal.length-requires
length-requires c =
    let F = accepted_fits _ (sym c.accept_lent.ensures.answer ∙ c.in_ok-accept_lent.was) in
    (F.input.most, F.output.most)

pub clear-requires : goal.clear-requires
clear-requires c =
    let fits = fits_scratch _ _ _ (sym c.fits.ensures ∙ not_false _ c.if-not-fits.false-raw) in
    omega (arith, c.length.ensures, c.prepare-x.ensures.kept.long, fits)

pub returns-in_err-accept_lent : goal.returns-in_err-accept_lent
returns-in_err-accept_lent c =
    let p = err_from_is_err_and c.from_residual.result c.from_residual.ensures.1 in
    rw (p.1, p.2) (map_faulty _ _ _ _ (sym c.accept_lent.ensures.answer ∙ c.in_err-accept_lent.was))

pub returns : goal.returns
returns c =
    let same = c.lay-z.ensures in
    map_done _ _ _ _ _ (sym c.accept_lent.ensures.answer ∙ c.in_ok-accept_lent.was) (sym c.fits.ensures ∙ not_false _ c.if-not-fits.false-raw)
    (cleared_kept _ _ _ _ (prepared_on same c.prepare-x.ensures).kept c.length.ensures c.clear.ensures)
    (filled_on same c.fill_map.ensures)
