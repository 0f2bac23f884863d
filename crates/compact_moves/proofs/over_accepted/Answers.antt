-- `over_accepted`: 23, 21, 9.
use mathlib.Core.Path.{◌∙◌, sym}
use native.Mathlib.Omega.{arith}
use Rattle.finite.proofs.Loops.{failed, passed}
use Rattle.compact_moves.proofs.Answers.{over_length, over_rows, over_room_lem, over_made}
use Rattle.compact_moves.proofs.Written.{controller_long}
use Rattle.compact_moves.proofs.over_accepted.Goals as goal

pub returns-then-table-controller_length : goal.returns-then-table-controller_length
returns-then-table-controller_length c =
    over_length _ _ c.requires _ (λ e. c.if-table-controller_length.true (e ∙ sym (controller_long _ c.controller_length.ensures)))

pub rows_fit-requires : goal.rows_fit-requires
rows_fit-requires c =
    (c.requires, c.leading-leaders.ensures, c.if-table-controller_length.false ∙ controller_long _ c.controller_length.ensures)

pub returns-then-not-rows_fit : goal.returns-then-not-rows_fit
returns-then-not-rows_fit c =
    over_rows _ _ c.requires _ (c.if-table-controller_length.false ∙ controller_long _ c.controller_length.ensures)
    (failed c.rows_fit.ensures c.if-not-rows_fit.true-raw)

pub components-components-requires : goal.components-components-requires
components-components-requires c =
    (c.requires, c.leading-leaders.ensures)

pub compact_length-n-requires : goal.compact_length-n-requires
compact_length-n-requires c =
    (c.requires, c.components-components.ensures)

pub returns-then-room-n : goal.returns-then-room-n
returns-then-room-n c =
    over_room_lem _ _ c.requires _ (c.if-table-controller_length.false ∙ controller_long _ c.controller_length.ensures)
    (passed c.rows_fit.ensures c.if-not-rows_fit.false-raw) (omega (arith, c.if-room-n.true, c.compact_length-n.ensures))

pub write_compact-requires : goal.write_compact-requires
write_compact-requires c = (
  c.requires,
  c.components-components.ensures,
  c.if-table-controller_length.false ∙ controller_long _ c.controller_length.ensures,
  passed c.rows_fit.ensures c.if-not-rows_fit.false-raw,
  omega (arith, c.if-room-n.false, c.compact_length-n.ensures),
)

pub returns : goal.returns
returns c =
    over_made _ _ c.requires _ (c.if-table-controller_length.false ∙ controller_long _ c.controller_length.ensures)
    (passed c.rows_fit.ensures c.if-not-rows_fit.false-raw) _ c.compact_length-n.ensures (omega (arith, c.if-room-n.false, c.compact_length-n.ensures))
    c.write_compact.ensures
