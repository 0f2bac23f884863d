-- `states_fit` looks at the initial states, at the rows past the count together, and then at every other row.
use mathlib.Core.Bool.{true}
use native.Mathlib.Omega.{arith}
use Rattle.sets.specs.Words.{capacity}
use Rattle.sets.proofs.Rows.{is_none, is_some}
use Rattle.finite.proofs.Loops.{all_start, all_turn, failed, passed}
use Rattle.game.proofs.Steps.{row_fits_lem, states_initial, states_row, states_end}
use Rattle.game.specs.Acceptance.{row_fits}
use Rattle.accept_graph.proofs.Past.{past_fails, past_fits}
use Rattle.accept_graph.proofs.states_fit.Goals as goal

pub returns-then-not-within : goal.returns-then-not-within
returns-then-not-within c = states_initial _ (failed c.within.ensures c.if-not-within.true-raw)

pub returns-then-not-is_empty : goal.returns-then-not-is_empty
returns-then-not-is_empty c =
    let lent = c.requires.0 in
    let w = (rw lent at c.joined_past-past.ensures).some (is_some _ c.is_empty.ensures c.if-not-is_empty.true-raw) in
    states_row _ w.0 (passed c.within.ensures c.if-not-within.false-raw) w.2 (past_fails _ w.0 w.1 w.3)

pub loop-s-init : goal.loop-s-init
loop-s-init c = (omega arith, all_start _)

pub row-requires : goal.row-requires
row-requires c =
    omega (arith, c.loop-s-test.true, c.first_rows-m.ensures, c.requires.1)

pub returns-then-not-row_fits : goal.returns-then-not-row_fits
returns-then-not-row_fits c =
    let lent = c.requires.0 in
    states_row _ _
    (passed c.within.ensures c.if-not-within.false-raw)
    (omega (arith, c.loop-s-test.true, c.first_rows-m.ensures))
    (failed (row_fits_lem _ _ _ _ (rw lent at c.row.ensures) c.row_fits.ensures) c.if-not-row_fits.true-raw)

pub loop-s-preserved : goal.loop-s-preserved
loop-s-preserved c =
    let lent = c.requires.0 in (
      omega arith,
      all_turn _ _ c.loop-s.invariant.1 (passed (row_fits_lem _ _ _ _ (rw lent at c.row.ensures) c.row_fits.ensures) c.if-not-row_fits.false-raw),
    )

pub returns : goal.returns
returns c =
    let lent = c.requires.0 in
    let none = is_none _ c.is_empty.ensures c.if-not-is_empty.false-raw in
    states_end _ capacity
    (passed c.within.ensures c.if-not-within.false-raw)
    (omega arith)
    (omega arith)
    (past_fits _ _ c.loop-s.s _ c.first_rows-m.ensures c.loop-s-test.false none (rw lent at c.joined_past-past.ensures) c.loop-s.invariant.1)
